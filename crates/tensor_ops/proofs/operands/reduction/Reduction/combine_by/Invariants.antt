-- The places before `done` are combined, the others as they were, and the next row is at hand.
use Rattle.std.proofs.Common.{◌≡◌, ℕ, ◌+◌, ◌-◌, ◌*◌, ◌<◌, ◌≤◌, length}
use Rattle.tensor_values.specs.Values.{value_in}
use Rattle.tensor_ops.specs.private.Reduced.{combined_at}
use Rattle.tensor_ops.proofs.operands.reduction.Reduction.combine_by.Given as goal

abbrev pub invariant-rows : goal.invariant-rows
invariant-rows l = record {
  long : length l.target ≡ l.size;
  below : l.done ≤ l.size;
  index : l.index < l.self.width;
  row : l.row < l.self.group;
  here : l.done < l.size
      → l.first + l.done ≡ (l.group * l.self.group + l.row) * l.self.width + l.index;
  each : (j : ℕ) → j < l.done → value_in l.target j ≡ combined_at l.self l.reducer
      (value_in l.initial.target j) (l.first + j);
  rest : (j : ℕ) → l.done ≤ j → value_in l.target j ≡ value_in l.initial.target j;
}

abbrev pub decreases-rows : goal.decreases-rows
decreases-rows l = l.size - l.done
