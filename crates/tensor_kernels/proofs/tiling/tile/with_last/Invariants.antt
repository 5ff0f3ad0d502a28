-- The first t sums with the last product.
use Rattle.std.proofs.Common.{◌≡◌, ℕ, length, ◌+◌, ◌<◌}
use Rattle.tensor_values.specs.Values.{value_in}
use Rattle.tensor_shape.specs.Wrap.{wrap}
use Rattle.tensor_kernels.specs.private.Cells.{height_of}
use Rattle.tensor_kernels.specs.private.Pairs.{lane}
use Rattle.tensor_dots.specs.Products.{dot}
use Rattle.tensor_kernels.proofs.tiling.tile.with_last.Given as goal

abbrev pub invariant-loop-t : goal.invariant-loop-t
invariant-loop-t l = record {
  len : length l.more ≡ 16;
  done : (s : ℕ) → s < l.t → value_in l.more s
      ≡ wrap (dot (lane (height_of l.fn.height) l.a s) (value_in l.b) (l.fn.n + 1));
}
