-- The cells before p, and room for all.
use Rattle.std.proofs.Common.{◌≡◌, ℕ, ◌<◌, ◌-ℤ◌, length, vec_len, vec_capacity}
use Rattle.tensor_shape.specs.Wrap.{wrap}
use Rattle.tensor_values.specs.Values.{value_in}
use Rattle.tensor_kernels.proofs.tiling.strassen.factors.difference.Given as goal

abbrev pub invariant-loop-p : goal.invariant-loop-p
invariant-loop-p l = record {
  each : (k : ℕ) → k < l.p
      → value_in l.cells.items k ≡ wrap (value_in l.x k -ℤ value_in l.y k);
  len : vec_len l.cells ≡ l.p;
  capacity : vec_capacity l.cells ≡ length l.x;
}
