-- The places so far have their values.
use Rattle.std.proofs.Common.{◌≡◌, ℕ, ◌+◌, ◌<◌, length}
use Rattle.tensor_scans.specs.Places.{along_at}
use Rattle.tensor_values.specs.Values.{value_in}
use Rattle.tensor_scans.proofs.along.AlongLines.fill_side_by_side.Given as goal

abbrev pub invariant-loop-k : goal.invariant-loop-k
invariant-loop-k l = record {
  len : length l.out ≡ length l.initial.out;
  each : (k : ℕ) → k < l.k
      → value_in l.out k ≡ along_at l.self.operation l.self.lines (value_in l.self.values.now) (l.first + k);
}
