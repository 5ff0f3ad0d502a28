-- The values that are written so far.
use Rattle.std.proofs.Common.{◌≡◌, ℕ, ◌+◌, ◌-◌, ◌<◌, ◌≤◌, length}
use Rattle.tensor_values.specs.Values.{value_in}
use Rattle.tensor_views.specs.Reading.{read_at}
use Rattle.tensor_loops.proofs.gather.tiles.Tiled.gather.Given as goal

abbrev pub invariant-loop-done : goal.invariant-loop-done
invariant-loop-done l = record {
  within : l.done ≤ length l.out;
  len : length l.out ≡ length l.initial.out;
  each : (k : ℕ) → k < l.done → value_in l.out k ≡ read_at l.self.reading (l.first + k);
}

abbrev pub decreases-loop-done : goal.decreases-loop-done
decreases-loop-done l = length l.out - l.done
