-- The rows so far have their values, and what stands at other indices is as it was.
use Rattle.std.proofs.Common.{◌≡◌, ◌≢◌, ℕ, ◌+◌, ◌*◌, ◌<◌, length}
use Rattle.tensor_values.specs.Values.{value_in}
use Rattle.tensor_loops.proofs.gather.tiles.Neighbours.put.Given as goal

abbrev pub invariant-loop-k : goal.invariant-loop-k
invariant-loop-k l = record {
  len : length l.out ≡ length l.initial.out;
  each : (j : ℕ) → j < l.k
      → value_in l.out (l.index + j * l.self.stride) ≡ value_in l.neighbours j;
  kept : (i j : ℕ) → i < l.self.stride → i ≢ l.index
      → value_in l.out (i + j * l.self.stride) ≡ value_in l.initial.out (i + j * l.self.stride);
}
