-- What the runs before gave, and the room.
use Rattle.std.proofs.Common.{◌≡◌, ◌+◌, ◌++◌, map, vec_len, vec_capacity}
use Rattle.std.specs.List.{range_with_len}
use Rattle.tensor_loops.specs.Folds.{run_folded}
use Rattle.tensor_values.specs.Values.{value_in}
use Rattle.tensor_loops.proofs.folds.add_each.Given as goal

abbrev pub invariant-loop-index : goal.invariant-loop-index
invariant-loop-index g l = record {
  items : l.combined.items ≡ l.initial.combined.items
      ++ map (run_folded l.reducer (value_in l.values) l.run) (range_with_len 0 l.index);
  len : vec_len l.combined ≡ vec_len l.initial.combined + l.index;
  capacity : vec_capacity l.combined ≡ vec_capacity l.initial.combined;
}
