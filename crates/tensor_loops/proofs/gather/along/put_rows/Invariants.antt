-- The values of the rows so far, and where the next row begins.
use Rattle.std.proofs.Common.{◌≡◌, ℕ, ◌+◌, ◌*◌, ◌/◌, ◌<◌, ◌≤◌, length}
use Rattle.tensor_values.specs.Values.{value_in}
use Rattle.tensor_views.specs.View.{along}
use Rattle.tensor_loops.proofs.gather.along.put_rows.Given as goal

abbrev pub invariant-loop-start : goal.invariant-loop-start
invariant-loop-start l = record {
  below : l.at ≤ length l.initial.values;
  index : l.from < l.axis.size;
  here : l.at < length l.initial.values
      → l.first + l.at ≡ l.from + l.axis.size * (l.first / l.axis.size + l.start-index);
  len : length l.values ≡ length l.initial.values;
  each : (k : ℕ) → k < l.at
      → value_in l.values k ≡ value_in l.list (along l.rows.starts.now l.axis l.first (l.first + k));
}
