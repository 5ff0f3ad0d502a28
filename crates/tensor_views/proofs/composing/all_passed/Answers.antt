use Rattle.std.proofs.Common.{◌∙◌, arith}
use Rattle.std.proofs.Math.Nat.{mul-le-mul_right}
use Rattle.tensor_views.specs.Forward.{no_axis}
use Rattle.tensor_views.specs.private.Tracing.{passed}
use Rattle.tensor_views.specs.declared.composing.Trace.TheVariants.{Open}
use Rattle.tensor_views.proofs.Compositions.{extent_along-one}
use Rattle.tensor_views.proofs.Mapped.{mapped-more, mapped-length}
use Rattle.tensor_views.proofs.composing.all_passed.Goals as goal

pub passed-requires-clause-fits : goal.passed-requires-clause-fits
passed-requires-clause-fits c =
    let one = extent_along-one c.args.first c.args.traces.now c.loop-trace.trace-index
    (Open no_axis) c.loop-trace-test.true in
    omega (arith, mul-le-mul_right c.args.first.step one, c.requires.fits)

pub push_reserved-requires : goal.push_reserved-requires
push_reserved-requires c =
    let inv = c.loop-trace.invariant in
    omega (
      arith,
      inv.1,
      mapped-length (passed c.args.first) c.args.traces.now
          c.loop-trace.trace-index c.loop-trace.after.items inv.0
          c.loop-trace.auto.trace-index-end,
    )

pub loop-trace-preserved : goal.loop-trace-preserved
loop-trace-preserved c =
    let inv = c.loop-trace.invariant in (
      mapped-more (passed c.args.first) c.args.traces.now c.loop-trace.trace-index
          c.loop-trace.after.items inv.0 (Open no_axis) _ _
          c.loop-trace-test.true c.push_reserved.ensures.items c.passed.ensures,
      c.push_reserved.ensures.capacity ∙ inv.1,
    )
