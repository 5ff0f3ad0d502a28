-- What the reader of a term returns for numbers that record one.
use Rattle.std.specs.Prelude.{◌≡◌, ◌≤◌, ℕ, List, IsTrue, Result, MatchResult}
use Rattle.tensor_terms.specs.Term.{Term, has_inputs}
use Rattle.tensor_terms.specs.Tree.{term_of}
use Rattle.prepared_expressions.specs.Recorded.{recorded, height_of, HasRanges}
use Rattle.prepared_expressions.specs.declared.refusal.Refusal.{Refusal}
use Rattle.prepared_expressions.specs.declared.refusal.Refusal.TheVariants.{NoMemory}
use Rattle.prepared_expressions.specs.declared.tree.Read.{Read}

-- the code read this term and left these numbers, or found no memory
abbrev pub IsTold : Result Read Refusal → Term → List ℕ → Type 0
IsTold r t rest =
    MatchResult r (λ read. (term_of read.expr ≡ t) × (read.rest.now ≡ rest)) (λ f. f ≡ NoMemory)

-- if the numbers record a term over these inputs, of at most this height, the code read it
abbrev pub IsToldOf : List ℕ → ℕ → ℕ → Result Read Refusal → Type 0
IsToldOf numbers inputs height r =
    (t : Term) (rest : List ℕ) → numbers ≡ recorded t rest → IsTrue (has_inputs t inputs)
    → HasRanges t → height_of t ≤ height → IsTold r t rest
