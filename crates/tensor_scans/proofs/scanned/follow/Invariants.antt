-- The first values are as they were, and each other before the counter follows that a stride before.
use Rattle.std.proofs.Common.{◌≡◌, ℕ, ◌+◌, ◌<◌, length}
use Rattle.tensor_values.specs.Values.{value_in}
use Rattle.tensor_values.specs.Combining.{combine}
use Rattle.tensor_scans.proofs.scanned.follow.Given as goal

abbrev pub invariant-loop-i : goal.invariant-loop-i
invariant-loop-i l = record {
  long : length l.out ≡ length l.initial.out;
  first : (k : ℕ) → k < l.stride → value_in l.out k ≡ value_in l.initial.out k;
  next : (k : ℕ) → k + l.stride < l.i → value_in l.out (k + l.stride)
      ≡ combine l.reducer (value_in l.out k) (value_in l.values (k + l.stride));
}
