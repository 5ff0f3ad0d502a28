-- What is held of the steps done is all that the others read.
use Rattle.std.proofs.Common.{◌+◌, ◌-◌, ◌<◌, ◌≤◌, ◌++◌, length, drop, vec_capacity}
use Rattle.tensor_ops.specs.Sequence.{worked_out}
use Rattle.tensor_reduce.specs.Plan.{terms_in}
use Rattle.tensor_reduce.specs.private.Held.{AreHeld}
use Rattle.tensor_reduce.proofs.running.work_out.Given as goal

abbrev pub invariant-loop-done : goal.invariant-loop-done
invariant-loop-done g l = record {
  held : AreHeld (drop l.done l.steps) (worked_out (terms_in l.steps) l.inputs.tensors)
      (l.inputs.tensors ++ l.tensors.items);
  some : 0 < l.done → 0 < length l.tensors.items;
  room : length l.tensors.items + length l.steps ≤ vec_capacity l.tensors + l.done;
}

abbrev pub decreases-loop-done : goal.decreases-loop-done
decreases-loop-done g l = length l.steps - l.done
