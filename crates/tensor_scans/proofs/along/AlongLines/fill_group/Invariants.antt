-- What is known of each line after the rows so far.
use Rattle.std.proofs.Common.{◌≡◌, ℕ, ◌+◌, ◌<◌, length, map}
use Rattle.std.specs.List.{range_with_len}
use Rattle.tensor_scans.specs.Places.{line_place}
use Rattle.tensor_scans.specs.private.Firsts.{IsSeen}
use Rattle.tensor_values.specs.Values.{value_in}
use Rattle.tensor_scans.proofs.along.AlongLines.fill_group.Given as goal

abbrev pub invariant-loop-number : goal.invariant-loop-number
invariant-loop-number l = record {
  room : length l.best ≡ length l.initial.best;
  len : length l.out ≡ length l.initial.out;
  each : (k : ℕ) → k < length l.out → IsSeen l.self.operation
      (map (λ n. value_in l.self.values.now (line_place l.self.lines 1 (l.place + k) n)) (range_with_len 0 l.number))
      (value_in l.best k) (value_in l.out k);
}
