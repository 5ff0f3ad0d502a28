use Rattle.std.proofs.Common.{◌≡◌, ◌-◌, ◌≤◌, map, vec_len, vec_capacity}
use Rattle.std.specs.List.{range_with_len}
use Rattle.parallel_for.specs.Leaves.{leaf}
use Rattle.parallel_for.proofs.halving.leaves.Given as goal

abbrev pub invariant-loop-i : goal.invariant-loop-i
invariant-loop-i g l = record {
  items : l.list.items ≡ map (leaf 0 (l.n - 0) l.block) (range_with_len 0 l.i);
  len : vec_len l.list ≡ l.i;
  room : l.count ≤ vec_capacity l.list;
}
