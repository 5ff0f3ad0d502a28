-- The values of the rows so far, and where the next row begins.
use Rattle.std.proofs.Common.{◌≡◌, ℕ, pos, ◌+◌, ◌-◌, ◌*◌, ◌/◌, ◌<◌, ◌≤◌, length, slice_index_or}
use Rattle.tensor_loops.specs.Loops.{either_way}
use Rattle.tensor_values.specs.Values.{value_in}
use Rattle.tensor_views.specs.View.{along}
use Rattle.tensor_loops.proofs.loops.combining.combine_rows.Given as goal

abbrev pub invariant-loop-start : goal.invariant-loop-start
invariant-loop-start l = record {
  above : l.first ≤ l.place;
  below : l.place ≤ l.last;
  index : l.from < l.axis.size;
  here : l.place < l.last → l.place ≡ l.from + l.axis.size * (l.first / l.axis.size + l.start-index);
  len : length l.values ≡ length l.initial.values;
  each : (k : ℕ) → k < l.place - l.first → slice_index_or l.values k (pos 0)
      ≡ either_way l.link.operation l.link.swapped (slice_index_or l.initial.values k (pos 0))
      (value_in l.list (along l.rows l.axis l.first (l.first + k)));
  after : (k : ℕ) → l.place - l.first ≤ k
      → slice_index_or l.values k (pos 0) ≡ slice_index_or l.initial.values k (pos 0);
}
