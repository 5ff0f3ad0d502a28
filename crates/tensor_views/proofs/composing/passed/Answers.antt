use Rattle.std.proofs.Common.{arith}
use Rattle.std.proofs.Math.Nat.{mul-le-mul_right}
use Rattle.tensor_views.proofs.Compositions.{step-most}
use Rattle.tensor_views.proofs.composing.passed.Goals as goal

pub traced_by-requires : goal.traced_by-requires
traced_by-requires c =
    let most = step-most c.args.first c.in-Open.axis (rw (← c.goes_along.ensures) c.if-goes_along.true) in
    let fits = rw c.in-Open.is at c.requires.fits in
    omega (arith, fits, mul-le-mul_right c.args.first.step most)
