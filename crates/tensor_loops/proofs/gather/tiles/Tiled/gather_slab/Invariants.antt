-- Each row has its values before the index.
use Rattle.std.proofs.Common.{◌≡◌, ℕ, ◌+◌, ◌-◌, ◌*◌, ◌<◌, ◌≤◌, length}
use Rattle.tensor_values.specs.Values.{value_in}
use Rattle.tensor_views.specs.Reading.{read_at}
use Rattle.tensor_loops.proofs.gather.tiles.Tiled.gather_slab.Given as goal

abbrev pub invariant-loop-from : goal.invariant-loop-from
invariant-loop-from l = record {
  within : l.from ≤ l.self.neighbours.stride;
  len : length l.out ≡ length l.initial.out;
  each : (i k : ℕ) → i < l.from → k < 8
      → value_in l.out (i + k * l.self.neighbours.stride)
      ≡ read_at l.self.reading (l.place + (i + k * l.self.neighbours.stride));
}

abbrev pub decreases-loop-from : goal.decreases-loop-from
decreases-loop-from l = l.self.neighbours.stride - l.from
