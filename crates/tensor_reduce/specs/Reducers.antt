-- What a reducer makes of one value.
use Rattle.std.specs.Prelude.{ℤ}
use Rattle.tensor_ops.specs.Scalars.{is_true, truth}
use Rattle.tensor_ops.specs.Reducer.{Reducer}
use Rattle.tensor_ops.specs.Reducer.TheVariants.{Sum, Prod, Max, Min, All, Any}

-- what one value alone gives: itself, or for All and Any whether it is true
abbrev pub alone : Reducer → ℤ → ℤ
alone Sum x = x
alone Prod x = x
alone Max x = x
alone Min x = x
alone All x = truth (is_true x)
alone Any x = truth (is_true x)
