-- The sources so far are written, and what stands before them in the rows is as it was.
use Rattle.std.proofs.Common.{◌≡◌, ℕ, ◌+◌, ◌*◌, ◌<◌, length, get_or}
use Rattle.tensor_values.specs.Values.{value_in}
use Rattle.tensor_loops.proofs.gather.tiles.Tiled.put_tile.Given as goal

abbrev pub invariant-loop-q : goal.invariant-loop-q
invariant-loop-q l = record {
  len : length l.out ≡ length l.initial.out;
  each : (r k : ℕ) → r < l.q → k < 8
      → value_in l.out (l.from + r + k * l.self.neighbours.stride)
      ≡ value_in l.self.reading.list.now (get_or l.sources r 0 + k);
  kept : (i k : ℕ) → i < l.from → k < 8
      → value_in l.out (i + k * l.self.neighbours.stride) ≡ value_in l.initial.out (i + k * l.self.neighbours.stride);
}
