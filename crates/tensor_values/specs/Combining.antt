-- Combining values one after the other.
use Rattle.std.specs.Prelude.{ℤ, pos, neg_ℤ, ◌+ℤ◌, ◌*ℤ◌, List, ◌&&◌, ◌||◌}
use Rattle.std.specs.Int.{int_max, int_min}
use Rattle.std.specs.List.{fold}
use Rattle.tensor_shape.specs.Wrap.{wrap}
use Rattle.tensor_values.specs.Scalars.{is_true, truth}
use Rattle.tensor_values.specs.declared.reducer.Reducer.{Reducer}
use Rattle.tensor_values.specs.declared.reducer.Reducer.TheVariants.{Sum, Prod, Max, Min, All, Any}

-- the result of a reduction of no values
abbrev pub unit : Reducer → ℤ
unit Sum = pos 0
unit Prod = pos 1
unit Max = neg_ℤ (pos 9223372036854775808)
unit Min = pos 9223372036854775807
unit All = pos 1
unit Any = pos 0

-- two values combined
abbrev pub combine : Reducer → ℤ → ℤ → ℤ
combine Sum x y = wrap (x +ℤ y)
combine Prod x y = wrap (x *ℤ y)
combine Max x y = int_max x y
combine Min x y = int_min x y
combine All x y = truth (is_true x && is_true y)
combine Any x y = truth (is_true x || is_true y)

-- values combined one after the other, beginning with the unit
abbrev pub combination : Reducer → List ℤ → ℤ
combination r values = fold (combine r) (unit r) values
