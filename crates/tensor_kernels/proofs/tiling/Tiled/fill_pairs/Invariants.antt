-- The sums of the groups so far.
use Rattle.std.proofs.Common.{◌≡◌, ℕ, ◌+◌, ◌*◌, ◌<◌, length, min}
use Rattle.tensor_shape.specs.Wrap.{wrap}
use Rattle.tensor_kernels.specs.Chunks.{before}
use Rattle.tensor_values.specs.Values.{value_in}
use Rattle.tensor_dots.specs.Products.{sum_to}
use Rattle.tensor_kernels.specs.Tiling.{product_at}
use Rattle.tensor_kernels.proofs.tiling.Tiled.fill_pairs.Given as goal

abbrev pub invariant-loop-group : goal.invariant-loop-group
invariant-loop-group l = record {
  len : length l.out ≡ length l.initial.out;
  sums : (k : ℕ) → k < length l.initial.out → before l.group (value_in l.out k)
      ≡ wrap (sum_to (product_at l.self.first l.self.second (l.place + k))
      (min (l.group * 2) l.self.pairs * 256));
}
