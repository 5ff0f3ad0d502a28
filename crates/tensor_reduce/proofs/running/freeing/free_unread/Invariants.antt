-- What the steps left read is held as before, and the tensors that were looked at hold no values.
use Rattle.std.proofs.Common.{◌≡◌, ◌-◌, ◌++◌, List, length, vec_capacity}
use Rattle.tensor_ops.specs.Contents.{Contents}
use Rattle.tensor_reduce.specs.private.Held.{AreHeld}
use Rattle.tensor_reduce.proofs.Freeing.{AreEmptyFrom}
use Rattle.tensor_reduce.proofs.running.freeing.free_unread.Given as goal

abbrev pub invariant-loop-behind : goal.invariant-loop-behind
invariant-loop-behind l = record {
  held : (whole : List Contents)
      → AreHeld l.left whole (l.inputs.tensors ++ l.initial.tensors.items)
      → AreHeld l.left whole (l.inputs.tensors ++ l.tensors.items);
  empty : AreEmptyFrom (length l.tensors.items - l.behind) l.tensors.items;
  len : length l.tensors.items ≡ length l.initial.tensors.items;
  capacity : vec_capacity l.tensors ≡ vec_capacity l.initial.tensors;
}
