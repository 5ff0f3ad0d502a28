-- What the record of a prepared expression gives over arrays.
use Rattle.std.specs.Prelude.{◌≡◌, ◌⊎◌, ℕ, ℤ, List, [], ◌∷◌, ◌++◌, Ok, Err, IsOk}
use Rattle.tensor_shape.specs.declared.bounds.Bounds.{Bounds}
use Rattle.tensor_terms.specs.Contents.{Contents}
use Rattle.tensor_terms.specs.Result.{dims_of}
use Rattle.tensor_terms.specs.Sequence.{worked_out}
use Rattle.tensor_terms.specs.Term.{Term}
use Rattle.tensor_terms.specs.Tree.{term_of}
use Rattle.tensor_terms.specs.Value.{tensor_of}
use Rattle.prepared_expressions.specs.Prepared.{Prepared, IsPrepared, terms_of, record_of, dealt}
use Rattle.prepared_expressions.specs.declared.ready.Ready.{Ready}
use Rattle.prepared_expressions.specs.declared.refusal.Refusal.{Refusal}
use Rattle.prepared_expressions.specs.declared.refusal.Refusal.TheVariants.{NoMemory, NoDims}

-- each term has result dims within bounds, over the tensors and the tensors of the terms before it
abbrev pub HaveDims : Bounds → List Term → List Contents → Type 0
HaveDims bounds [] tensors = Unit {0}
HaveDims bounds (t ∷ ts) tensors =
    IsOk (dims_of bounds t tensors) × HaveDims bounds ts (tensors ++ tensor_of t tensors ∷ [])

-- the tensor of an expression that is ready
abbrev pub tensor_under : Ready → Contents
tensor_under ready = tensor_of (term_of ready.expr) ready.tensors.tensors

-- the numbers are the record of one prepared expression, the source. This is its expression, over
-- the inputs with the values of the arrays and the tensors of the bindings
pub record IsFound (numbers : List ℕ) (arrays : List (List ℤ)) (ready : Ready) : Type 0 where
  pub source : Prepared
  pub inputs : List Contents
  pub written : numbers ≡ record_of source
  pub only : (p : Prepared) → IsPrepared p → numbers ≡ record_of p → p ≡ source
  pub given : dealt source.dims arrays ≡ Ok inputs
  pub tensors : ready.tensors.tensors ≡ worked_out source.bindings inputs
  pub term : term_of ready.expr ≡ source.term

-- a binding of the prepared expression, or the expression itself, has no dims over the arrays
pub record LacksDims (p : Prepared) (arrays : List (List ℤ)) : Type 0 where
  pub inputs : List Contents
  pub given : dealt p.dims arrays ≡ Ok inputs
  pub none : HaveDims p.bounds (terms_of p) inputs → ⊥

-- if the numbers are the record of a prepared expression, the refusal is that of the arrays,
-- `NoDims` if dims are lacking, or `NoMemory`
abbrev pub IsRefusalOf : List ℕ → List (List ℤ) → Refusal → Type 0
IsRefusalOf numbers arrays f =
    (p : Prepared) → IsPrepared p → numbers ≡ record_of p
    → (f ≡ NoMemory) ⊎ ((dealt p.dims arrays ≡ Err f) ⊎ ((f ≡ NoDims) × LacksDims p arrays))
