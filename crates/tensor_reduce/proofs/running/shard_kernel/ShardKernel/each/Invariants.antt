-- What the shards so far give.
use Rattle.std.proofs.Common.{◌≡◌, ◌-◌, ◌≤◌, map, vec_len, vec_capacity}
use Rattle.std.specs.List.{range_with_len}
use Rattle.tensor_reduce.specs.private.Combined.{shard_at_place}
use Rattle.tensor_reduce.proofs.running.shard_kernel.ShardKernel.each.Given as goal

abbrev pub invariant-loop-place : goal.invariant-loop-place
invariant-loop-place g l = record {
  items : l.found.items ≡ map (shard_at_place l.self) (range_with_len l.first (l.place - l.first));
  len : vec_len l.found ≡ l.place - l.first;
  room : l.last - l.first ≤ vec_capacity l.found;
}
