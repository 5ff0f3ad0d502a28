use Rattle.std.proofs.Common.{◌∙◌, arith}
use Rattle.tensor_views.specs.Forward.{no_axis}
use Rattle.tensor_views.specs.private.Tracing.{traced_axis}
use Rattle.tensor_views.specs.declared.composing.Trace.TheVariants.{Open}
use Rattle.tensor_views.proofs.Mapped.{mapped-more, mapped-length}
use Rattle.tensor_views.proofs.composing.traced_axes.Goals as goal

pub push_reserved-requires : goal.push_reserved-requires
push_reserved-requires c =
    let inv = c.loop-trace.invariant in
    omega (
      arith,
      inv.1,
      mapped-length traced_axis c.args.traces.now c.loop-trace.trace-index
          c.loop-trace.axes.items inv.0 c.loop-trace.auto.trace-index-end,
    )

pub loop-trace-preserved : goal.loop-trace-preserved
loop-trace-preserved c =
    let inv = c.loop-trace.invariant in (
      mapped-more traced_axis c.args.traces.now c.loop-trace.trace-index c.loop-trace.axes.items
          inv.0 (Open no_axis) _ _
          c.loop-trace-test.true c.push_reserved.ensures.items c.traced_axis.ensures,
      c.push_reserved.ensures.capacity ∙ inv.1,
    )
