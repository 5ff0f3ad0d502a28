use Rattle.std.proofs.Common.{arith}
use Rattle.tensor_views.proofs.SplitAxes.{stride-within, some-after, split_axes-same, same-after}
use Rattle.tensor_views.proofs.composing.refined.Goals as goal

pub overflow_mul-stride : goal.overflow_mul-stride
overflow_mul-stride c =
    let within = stride-within c.args.second.now c.loop-axis.axis-index c.loop-axis.stride _ (omega arith) c.loop-axis.invariant.some c.loop-axis.invariant.few in
    omega (arith, within.0)

pub loop-axis-preserved : goal.loop-axis-preserved
loop-axis-preserved c =
    let within = stride-within c.args.second.now c.loop-axis.axis-index c.loop-axis.stride _ (omega arith) c.loop-axis.invariant.some c.loop-axis.invariant.few in
    record {
      some = some-after c.args.second.now c.loop-axis.axis-index (omega arith) c.loop-axis.invariant.some;
      few = within.1;
      same = rw c.in_ok-refined-2.ensures (same-after _ _ _ (rw c.deref.ensures.value (split_axes-same _ _)) c.loop-axis.invariant.same);
    }
