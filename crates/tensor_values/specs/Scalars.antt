-- The operations on single values.
use Rattle.std.specs.Prelude.{ℤ, pos, ◌+ℤ◌, ◌-ℤ◌, ◌*ℤ◌, neg_ℤ, unsigned_abs, count_ones}
use Rattle.std.specs.Prelude.{int_lt, int_le}
use Rattle.std.specs.Prelude.{Bool, not, ◌&&◌, ◌||◌, if◌then◌else◌}
use Rattle.std.specs.Int.{w64, int_max, int_min, int_bit_and, int_bit_or, int_bit_xor, int_bit_not}
use Rattle.std.specs.Ordering.{int_eq}
use Rattle.tensor_shape.specs.Wrap.{wrap}
use Rattle.tensor_values.specs.Division.{floor_quotient, remainder, shifted_left, shifted_right}
use Rattle.tensor_values.specs.declared.operations.UnaryScalar.{UnaryScalar}
use Rattle.tensor_values.specs.declared.operations.UnaryScalar.TheVariants as one
use Rattle.tensor_values.specs.declared.operations.BinaryScalar.{BinaryScalar}
use Rattle.tensor_values.specs.declared.operations.BinaryScalar.TheVariants as two

-- a value is true if it isn't 0
abbrev pub is_true : ℤ → Bool
is_true x = not (int_eq x (pos 0))

-- 1 for true and 0 for false
abbrev pub truth : Bool → ℤ
truth holds = if holds then pos 1 else pos 0

-- the result of an operation on one value
abbrev pub applied : UnaryScalar → ℤ → ℤ
applied one.Neg x = wrap (neg_ℤ x)
applied one.Abs x = wrap (pos (unsigned_abs x))
applied one.Square x = wrap (x *ℤ x)
applied one.Not x = truth (not (is_true x))
applied one.BitNot x = int_bit_not w64 x
applied one.BitCount x = pos (count_ones (unsigned_abs x))

-- the result of an operation on two values
abbrev pub combined : BinaryScalar → ℤ → ℤ → ℤ
combined two.Add x y = wrap (x +ℤ y)
combined two.Sub x y = wrap (x -ℤ y)
combined two.Mul x y = wrap (x *ℤ y)
combined two.CwiseMax x y = int_max x y
combined two.CwiseMin x y = int_min x y
combined two.Lt x y = truth (int_lt x y)
combined two.Le x y = truth (int_le x y)
combined two.Eq x y = truth (int_eq x y)
combined two.Ne x y = truth (not (int_eq x y))
combined two.Gt x y = truth (int_lt y x)
combined two.Ge x y = truth (int_le y x)
combined two.And x y = truth (is_true x && is_true y)
combined two.Or x y = truth (is_true x || is_true y)
combined two.FloorDivide x y = wrap (floor_quotient x y)
combined two.Remainder x y = remainder x y
combined two.BitAnd x y = int_bit_and w64 x y
combined two.BitOr x y = int_bit_or w64 x y
combined two.BitXor x y = int_bit_xor w64 x y
combined two.ShiftLeft x y = wrap (shifted_left x y)
combined two.ShiftRight x y = shifted_right x y
