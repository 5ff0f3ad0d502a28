-- The rows of the blocks before b are written, all others are as they were.
use Rattle.std.proofs.Common.{◌≡◌, ℕ, ◌+◌, ◌*◌, ◌/◌, ◌%◌, ◌<◌, ◌≤◌, ◌+ℤ◌, length}
use Rattle.tensor_shape.specs.Wrap.{wrap}
use Rattle.tensor_kernels.specs.Chunks.{before}
use Rattle.tensor_kernels.specs.private.Strassen.{AreLong}
use Rattle.tensor_kernels.specs.Tiling.{group_total}
use Rattle.tensor_values.specs.Values.{value_in}
use Rattle.tensor_kernels.proofs.tiling.Tiled.add_blocks.Given as goal

abbrev pub invariant-loop-b : goal.invariant-loop-b
invariant-loop-b l = record {
  long : AreLong (16 * l.band.half) l.products;
  len : length l.out ≡ length l.initial.out;
  put : (k : ℕ) → k < length l.initial.out → (l.band.place + k) % l.self.rows / 32 < l.b
      → value_in l.out k ≡ wrap (before l.band.group (value_in l.initial.out k)
      +ℤ group_total l.self l.band.group (l.band.place + k));
  kept : (k : ℕ) → k < length l.initial.out → l.b ≤ (l.band.place + k) % l.self.rows / 32
      → value_in l.out k ≡ value_in l.initial.out k;
}
