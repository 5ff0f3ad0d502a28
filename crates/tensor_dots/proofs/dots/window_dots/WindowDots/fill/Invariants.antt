-- The values before the place.
use Rattle.std.proofs.Common.{◌≡◌, ℕ, ◌+◌, ◌-◌, ◌<◌, ◌≤◌, length}
use Rattle.tensor_dots.specs.WindowDots.{window_dots_value}
use Rattle.tensor_values.specs.Values.{value_in}
use Rattle.tensor_dots.proofs.dots.window_dots.WindowDots.fill.Given as goal

abbrev pub invariant-loop-place : goal.invariant-loop-place
invariant-loop-place l = record {
  above : l.first ≤ l.place;
  below : l.place ≤ l.last;
  len : length l.out ≡ length l.initial.out;
  each : (k : ℕ) → k < l.place - l.first → value_in l.out k ≡ window_dots_value l.self (l.first + k);
}

abbrev pub decreases-loop-place : goal.decreases-loop-place
decreases-loop-place l = l.last - l.place
