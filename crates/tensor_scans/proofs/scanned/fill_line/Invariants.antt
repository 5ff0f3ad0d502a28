-- The values before the counter are written, and what they are combined to is at hand.
use Rattle.std.proofs.Common.{◌≡◌, ℕ, ◌+◌, ◌<◌, length, take}
use Rattle.tensor_values.specs.Values.{value_in}
use Rattle.tensor_values.specs.Combining.{combination}
use Rattle.tensor_scans.proofs.scanned.fill_line.Given as goal

abbrev pub invariant-loop-i : goal.invariant-loop-i
invariant-loop-i l = record {
  long : length l.out ≡ length l.initial.out;
  all : l.all ≡ combination l.reducer (take (l.from + l.i) l.line);
  each : (k : ℕ) → k < l.i
      → value_in l.out k ≡ combination l.reducer (take (l.from + k + 1) l.line);
}
