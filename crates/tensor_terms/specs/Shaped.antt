-- Result dims, or the first fault.
use Rattle.std.specs.Prelude.{ℕ, List, length, Result, Ok, Err, Bool, nat_eq, if◌then◌else◌}
use Rattle.std.specs.Cmp.Lexicographic.{pointwise}
use Rattle.tensor_shape.specs.Legal.{are_legal}
use Rattle.tensor_shape.specs.declared.bounds.Bounds.{Bounds}
use Rattle.tensor_terms.specs.declared.fault.ExprFault.{ExprFault}
use Rattle.tensor_terms.specs.declared.fault.ExprFault.TheVariants.{ShapeMismatch, TooLarge}

-- result dims, or a fault
abbrev pub Shaped : Type 0
Shaped = Result (List ℕ) ExprFault

-- the fault of an operand, or else the result of the operation on its dims
abbrev pub with_one : (List ℕ → Shaped) → Shaped → Shaped
with_one own (Ok d) = own d
with_one own (Err fault) = Err fault

-- the first fault of two operands, from the left, or else the result of the operation on their dims
abbrev pub with_two : (List ℕ → List ℕ → Shaped) → Shaped → Shaped → Shaped
with_two own first second = with_one (λ d. with_one (own d) second) first

-- the first fault of three operands, from the left, or else the result of the operation on their
-- dims
abbrev pub with_three : (List ℕ → List ℕ → List ℕ → Shaped)
    → Shaped → Shaped → Shaped → Shaped
with_three own first second third = with_one (λ d. with_two (own d) second third) first

-- the fault of a check that fails, or else the result of what follows
abbrev pub check : Bool → ExprFault → Shaped → Shaped
check holds fault behind = if holds then behind else Err fault

-- checks that two lists have equal lengths
abbrev pub check_lengths : {A : Type 0} → List A → List ℕ → Shaped → Shaped
check_lengths xs ds behind = check (nat_eq (length xs) (length ds)) ShapeMismatch behind

-- dims that two operands must have in common
abbrev pub equal_dims : List ℕ → List ℕ → Shaped
equal_dims d e = check (pointwise nat_eq d e) ShapeMismatch (Ok d)

-- dims that must be within bounds
abbrev pub legal_dims : Bounds → List ℕ → Shaped
legal_dims bounds d = check (are_legal bounds d) TooLarge (Ok d)
