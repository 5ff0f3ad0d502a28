-- The values so far have been divided, and the others are as they were.
use Rattle.std.proofs.Common.{◌≡◌, ℕ, ◌+◌, ◌<◌, ◌≤◌, pos, length, slice_index_or}
use Rattle.tensor_values.specs.Scalars.{combined}
use Rattle.tensor_loops.proofs.loops.dividing.Division.divide_each.Given as goal

abbrev pub invariant-loop-k : goal.invariant-loop-k
invariant-loop-k l = record {
  len : length l.values ≡ length l.initial.values;
  each : (k : ℕ) → k < l.k → slice_index_or l.values (l.at + k) (pos 0)
      ≡ combined l.self.operation (slice_index_or l.initial.values (l.at + k) (pos 0)) (pos l.self.inverse.divisor);
  before : (k : ℕ) → k < l.at → slice_index_or l.values k (pos 0) ≡ slice_index_or l.initial.values k (pos 0);
  after : (k : ℕ) → l.at + l.k ≤ k → slice_index_or l.values k (pos 0) ≡ slice_index_or l.initial.values k (pos 0);
}
