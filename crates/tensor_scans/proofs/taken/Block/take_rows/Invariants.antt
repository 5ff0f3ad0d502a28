-- The rows that are written so far.
use Rattle.std.proofs.Common.{◌≡◌, ℕ, ◌*◌, ◌<◌, ◌≤◌, length}
use Rattle.tensor_scans.specs.private.Rows.{taken_in}
use Rattle.tensor_values.specs.Values.{value_in}
use Rattle.tensor_scans.proofs.taken.Block.take_rows.Given as goal

abbrev pub invariant-loop-number : goal.invariant-loop-number
invariant-loop-number l = record {
  rows : l.done ≡ l.number-index * l.self.lines.stride;
  within : l.done ≤ length l.out;
  len : length l.out ≡ length l.initial.out;
  each : (k : ℕ) → k < l.done → value_in l.out k ≡ taken_in l.self.lines l.numbers (value_in l.self.values.now) k;
}
