-- What the reader of bindings and an expression returns for numbers that record them.
use Rattle.std.specs.Prelude.{◌≡◌, ◌⊎◌, ◌+◌, ℕ, List, [], ◌∷◌, ◌++◌, length, IsTrue}
use Rattle.std.specs.List.{All}
use Rattle.tensor_terms.specs.Contents.{Contents, Given}
use Rattle.tensor_terms.specs.Sequence.{worked_out}
use Rattle.tensor_terms.specs.Term.{Term}
use Rattle.tensor_terms.specs.Tree.{term_of}
use Rattle.expr_reader.specs.Bindings.{have_inputs}
use Rattle.prepared_expressions.specs.Prepared.{IsWritable}
use Rattle.prepared_expressions.specs.Ready.{HaveDims}
use Rattle.prepared_expressions.specs.Recorded.{recorded_all}
use Rattle.prepared_expressions.specs.declared.ready.Ready.{Ready}
use Rattle.prepared_expressions.specs.declared.refusal.Refusal.{Refusal}
use Rattle.prepared_expressions.specs.declared.refusal.Refusal.TheVariants.{NoMemory, NoDims}

module _ (numbers : List ℕ) (count : ℕ) where
  -- the numbers record `count` bindings over this many inputs, a term after them, and nothing else
  pub record AreRecorded (inputs : ℕ) (ts : List Term) : Type 0 where
    pub many : length ts ≡ count + 1
    pub here : numbers ≡ recorded_all ts []
    pub has : IsTrue (have_inputs ts inputs)
    pub writable : All IsWritable ts

  -- the numbers record these bindings and the expression, which is over the inputs and the tensors
  -- of the bindings
  pub record IsRecordedOver (inputs : List Contents) (ready : Ready) : Type 0 where
    pub bindings : List Term
    pub many : length bindings ≡ count
    pub here : numbers ≡ recorded_all (bindings ++ term_of ready.expr ∷ []) []
    pub only : (ts : List Term) → AreRecorded (length inputs) ts
        → ts ≡ bindings ++ term_of ready.expr ∷ []
    pub tensors : ready.tensors.tensors ≡ worked_out bindings inputs

  -- if the numbers record terms, some have no dims, or there is no memory
  abbrev pub IsRefusalFor : Given → Refusal → Type 0
  IsRefusalFor inputs f =
      (ts : List Term) → AreRecorded (length inputs.tensors) ts
      → (f ≡ NoMemory) ⊎ ((f ≡ NoDims) × (HaveDims inputs.bounds ts inputs.tensors → ⊥))
