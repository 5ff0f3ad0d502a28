-- The values so far.
use Rattle.std.proofs.Common.{◌≡◌, ◌≤◌, map, vec_len, vec_capacity}
use Rattle.std.specs.List.{range_with_len}
use Rattle.tensor_reduce.specs.private.Combined.{combined_by}
use Rattle.tensor_reduce.proofs.running.combined.combined_values.Given as goal

abbrev pub invariant-loop-value : goal.invariant-loop-value
invariant-loop-value l = record {
  items : l.combined.items
      ≡ map (combined_by l.reducer l.count l.parts) (range_with_len 0 l.value);
  len : vec_len l.combined ≡ l.value;
  room : l.values ≤ vec_capacity l.combined;
}
