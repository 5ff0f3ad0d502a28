-- The sums of the columns before j are added, and all others as they were.
use Rattle.std.proofs.Common.{◌≡◌, ℕ, ◌*◌, ◌+ℤ◌, ◌<◌, ◌≤◌, length}
use Rattle.tensor_shape.specs.Wrap.{wrap}
use Rattle.tensor_kernels.specs.Chunks.{before}
use Rattle.tensor_values.specs.Values.{value_in}
use Rattle.tensor_kernels.specs.private.Strassen.{product_sum}
use Rattle.tensor_kernels.proofs.tiling.strassen.products.add_product.Given as goal

abbrev pub invariant-loop-j : goal.invariant-loop-j
invariant-loop-j l = record {
  len : length l.sums ≡ 16 * l.n;
  added : (k : ℕ) → k < 16 * l.j → value_in l.sums k
      ≡ wrap (before l.pair (value_in l.initial.sums k) +ℤ product_sum l.rows l.columns k);
  kept : (k : ℕ) → 16 * l.j ≤ k → value_in l.sums k ≡ value_in l.initial.sums k;
}
