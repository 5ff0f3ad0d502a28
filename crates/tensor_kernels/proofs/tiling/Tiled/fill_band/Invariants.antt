-- The sums of the chunks before c.
use Rattle.std.proofs.Common.{◌≡◌, ℕ, ◌+◌, ◌<◌, length}
use Rattle.tensor_shape.specs.Wrap.{wrap}
use Rattle.tensor_kernels.specs.Chunks.{before, chunk_start}
use Rattle.tensor_values.specs.Values.{value_in}
use Rattle.tensor_dots.specs.Products.{sum_to}
use Rattle.tensor_dots.specs.Rows.{row_length}
use Rattle.tensor_kernels.specs.Tiling.{product_at}
use Rattle.tensor_kernels.proofs.tiling.Tiled.fill_band.Given as goal

abbrev pub invariant-loop-c : goal.invariant-loop-c
invariant-loop-c l = record {
  len : length l.out ≡ length l.initial.out;
  sums : (k : ℕ) → k < length l.initial.out → before l.c (value_in l.out k)
      ≡ wrap (sum_to (product_at l.self.first l.self.second (l.place + k))
      (chunk_start (row_length l.self.first) l.c));
}
