-- So many tensors stand behind the others.
use Rattle.std.proofs.Common.{◌≡◌, ◌+◌, ◌≤◌, length, vec_capacity}
use Rattle.tensor_reduce.specs.private.Held.{HasMore}
use Rattle.tensor_reduce.proofs.running.freeing.push_freed.Given as goal

abbrev pub invariant-loop : goal.invariant-loop
invariant-loop l = record {
  more : HasMore l.counter l.initial.tensors.items l.tensors.items;
  room : length l.initial.tensors.items + l.count ≤ vec_capacity l.tensors;
  capacity : vec_capacity l.tensors ≡ vec_capacity l.initial.tensors;
}
