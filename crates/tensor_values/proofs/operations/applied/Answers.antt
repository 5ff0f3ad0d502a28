use Rattle.std.proofs.Common.{◌≡◌, ◌<◌, ◌^◌, ℤ, pos, ap, sym, rules, arith}
use Rattle.std.proofs.Math.Nat.{mod-eq_of_lt}
use Rattle.std.proofs.lemmas.Int.{ints, wraps}
use Rattle.std.specs.Int.{w64, cast_signed, int_wrap}
use Rattle.std.specs.Prelude.{unsigned_abs}
use mir.Val.{SFits}
use Rattle.tensor_values.proofs.operations.applied.Goals as goal

pub returns-in-Neg : goal.returns-in-Neg
returns-in-Neg c = rw c.in-Neg.is (search (rules, wraps))

-- an absolute value of the range wraps as a cast does
abs-wrapped : (x : ℤ) → SFits w64 x → cast_signed w64 (unsigned_abs x) ≡ int_wrap w64 (pos (unsigned_abs x))
unfolding int_wrap
abs-wrapped x fits =
    let below : unsigned_abs x < 2 ^ 64 = omega (arith, ints, fits.sfits) in
    ap (cast_signed w64) (sym (mod-eq_of_lt below))

pub returns-in-Abs : goal.returns-in-Abs
returns-in-Abs c =
    rw (c.in-Abs.is, ← abs-wrapped c.args.x c.ranges.x) (search (rules, wraps))
