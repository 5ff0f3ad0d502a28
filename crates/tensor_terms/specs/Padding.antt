-- Zeroes around a tensor.
use Rattle.std.specs.Prelude.{ℕ, ℤ, pos, ◌+◌, ◌-◌, List, ◌∷◌}
use Rattle.std.specs.Prelude.{nat_lt, nat_le, Bool, true, ◌&&◌, if◌then◌else◌}
use Rattle.tensor_shape.specs.declared.bounds.Bounds.{Bounds}
use Rattle.tensor_terms.specs.Shaped.{Shaped, check_lengths, legal_dims}
use Rattle.tensor_terms.specs.Zipped.{zip_with}

-- each dimension, with the zeroes before and after it added
abbrev pub padded_dims : List (ℕ × ℕ) → List ℕ → List ℕ
padded_dims pairs ds = zip_with (λ p d. p.0 + d + p.1) pairs ds

-- whether each index is past the zeroes before and not past the operand's dimension
abbrev pub is_inside : List (ℕ × ℕ) → List ℕ → List ℕ → Bool
is_inside (p ∷ ps) (d ∷ ds) (i ∷ is) =
    (nat_le p.0 i && nat_lt i (p.0 + d)) && is_inside ps ds is
is_inside pairs ds is = true

-- each index less the zeroes before it
abbrev pub moved_back : List (ℕ × ℕ) → List ℕ → List ℕ
moved_back pairs is = zip_with (λ p i. i - p.0) pairs is

-- the result dims of a pad within bounds, or the fault of the first check that fails
abbrev pub pad_dims : Bounds → List (ℕ × ℕ) → List ℕ → Shaped
pad_dims bounds pairs ds =
    check_lengths pairs ds (legal_dims bounds (zip_with (λ p d. p.0 + d + p.1) pairs ds))

-- the value of a pad at an index list: the operand's value, or 0 outside the operand
abbrev pub padded : List (ℕ × ℕ) → List ℕ → (List ℕ → ℤ) → List ℕ → ℤ
padded pairs ds a is =
    if is_inside pairs ds is then a (zip_with (λ p i. i - p.0) pairs is) else pos 0
