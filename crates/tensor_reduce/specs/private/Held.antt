-- Tensors that are held while steps are left, in which those that no step left reads may be freed.
use Rattle.std.specs.Prelude.{◌≡◌, ◌+◌, ◌<◌, ◌≤◌, ℕ, List, [], ◌++◌, length, true, false}
use Rattle.tensor_ops.specs.Contents.{Contents, input_of}
use Rattle.tensor_ops.specs.Sequence.{worked_out}
use Rattle.tensor_reduce.specs.Plan.{terms_in, last_tensor, AreReady}
use Rattle.tensor_reduce.specs.private.Readers.{are_reading}
use Rattle.tensor_reduce.specs.declared.step.Step.{Step}

-- held stands for all tensors: each tensor that the steps left read is there
pub record AreHeldFor (left : List Step) (held all : List Contents) : Type 0 where
  pub ready : AreReady left all
  pub as_many : length held ≡ length all
  pub read : (n : ℕ) → are_reading n left ≡ true → input_of held n ≡ input_of all n
  pub last : last_tensor held ≡ last_tensor all

-- held stands for tensors from which the steps left give the whole
abbrev pub AreHeld : List Step → List Contents → List Contents → Type 0
AreHeld left whole held =
    (all : List Contents) × (AreHeldFor left held all × (worked_out (terms_in left) all ≡ whole))

-- the tensors made after the inputs are freed as far as the last one that a step left reads: a tensor
-- before the last has no values if no step left reads it or one between it and the last
abbrev pub AreFreed : List Step → List Contents → List Contents → Type 0
AreFreed left inputs made =
    (p : ℕ) → p + 1 < length made
    → ((k : ℕ) → p ≤ k → k + 1 < length made
    → are_reading (length inputs + k) left ≡ false)
    → (input_of made p).values ≡ []

-- new is old with count tensors more behind it
abbrev pub HasMore : ℕ → List Contents → List Contents → Type 0
HasMore count old new = (more : List Contents) × ((new ≡ old ++ more) × (length more ≡ count))
