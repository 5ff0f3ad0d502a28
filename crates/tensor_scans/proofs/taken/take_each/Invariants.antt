-- What the line has at each number so far.
use Rattle.std.proofs.Common.{◌≡◌, ℕ, ◌<◌, length}
use Rattle.tensor_scans.specs.Lines.{taken_from}
use Rattle.tensor_values.specs.Values.{value_in}
use Rattle.tensor_scans.proofs.taken.take_each.Given as goal

abbrev pub invariant-loop-i : goal.invariant-loop-i
invariant-loop-i l = record {
  len : length l.out ≡ length l.initial.out;
  each : (k : ℕ) → k < l.i → value_in l.out k ≡ taken_from l.line (value_in l.numbers k);
}
