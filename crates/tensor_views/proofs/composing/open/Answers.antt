use Rattle.std.proofs.Common.{refl, ◌∙◌, arith}
use Rattle.tensor_views.specs.Forward.{no_axis}
use Rattle.tensor_views.specs.private.Tracing.{opened}
use Rattle.tensor_views.proofs.Mapped.{mapped-more, mapped-length}
use Rattle.tensor_views.proofs.composing.open.Goals as goal

pub push_reserved-requires : goal.push_reserved-requires
push_reserved-requires c =
    let inv = c.loop-axis.invariant in
    omega (
      arith,
      inv.1,
      mapped-length opened c.args.axes.now c.loop-axis.axis-index
          c.loop-axis.traces.items inv.0 c.loop-axis.auto.axis-index-end,
    )

pub loop-axis-preserved : goal.loop-axis-preserved
loop-axis-preserved c =
    let inv = c.loop-axis.invariant in (
      mapped-more opened c.args.axes.now c.loop-axis.axis-index c.loop-axis.traces.items inv.0
          no_axis _ _
          c.loop-axis-test.true c.push_reserved.ensures.items refl,
      c.push_reserved.ensures.capacity ∙ inv.1,
    )
