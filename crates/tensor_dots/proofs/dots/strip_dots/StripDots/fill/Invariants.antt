-- The values before k.
use Rattle.std.proofs.Common.{◌≡◌, ℕ, ◌+◌, ◌<◌, length}
use Rattle.tensor_values.specs.Values.{value_in}
use Rattle.tensor_dots.specs.StripDots.{strip_dots_value}
use Rattle.tensor_dots.proofs.dots.strip_dots.StripDots.fill.Given as goal

abbrev pub invariant-loop-k : goal.invariant-loop-k
invariant-loop-k l = record {
  len : length l.out ≡ length l.initial.out;
  each : (k : ℕ) → k < l.k → value_in l.out k ≡ strip_dots_value l.self (l.first + k);
}
