-- The values at the places before start, and the room.
use Rattle.std.proofs.Common.{◌≡◌, ◌+◌, ◌++◌, map, take, vec_len, vec_capacity}
use Rattle.tensor_values.specs.Values.{value_in}
use Rattle.tensor_kernels.proofs.panels.packing.push_at.Given as goal

abbrev pub invariant-loop-start : goal.invariant-loop-start
invariant-loop-start l = record {
  cells : l.packed.items ≡ l.initial.packed.items
      ++ map (λ start. value_in l.values (start + l.offset)) (take l.start-index l.starts);
  len : vec_len l.packed ≡ vec_len l.initial.packed + l.start-index;
  capacity : vec_capacity l.packed ≡ vec_capacity l.initial.packed;
}
