-- Which steps read a tensor.
use Rattle.std.specs.Prelude.{ℕ, nat_eq, List, [], ◌∷◌, Bool, false, ◌||◌}
use Rattle.tensor_ops.specs.Term.{Term, input, unary, binary, ternary}
use Rattle.tensor_reduce.specs.Plan.{term_of_step}
pub use Rattle.tensor_reduce.specs.Readers.{reads}
use Rattle.tensor_reduce.specs.declared.step.Step.{Step}

-- whether one of the steps reads tensor n
abbrev pub are_reading : ℕ → List Step → Bool
are_reading n [] = false
are_reading n (s ∷ steps) = reads n (term_of_step s) || are_reading n steps

-- whether a term is tensor n
abbrev pub is_tensor : ℕ → Term → Bool
is_tensor n (input m) = nat_eq m n
is_tensor n (unary o a) = false
is_tensor n (binary o a b) = false
is_tensor n (ternary o a b c) = false

-- whether a term is one operation on tensor n alone
abbrev pub is_over : ℕ → Term → Bool
is_over n (input m) = false
is_over n (unary o a) = is_tensor n a
is_over n (binary o a b) = false
is_over n (ternary o a b c) = false
