-- The sums before t.
use Rattle.std.proofs.Common.{◌≡◌, ℕ, ◌+◌, ◌<◌, ◌+ℤ◌, length}
use Rattle.tensor_shape.specs.Wrap.{wrap}
use Rattle.tensor_values.specs.Values.{value_in}
use Rattle.tensor_kernels.proofs.tiling.strassen.block.two.Given as goal

abbrev pub invariant-loop-t : goal.invariant-loop-t
invariant-loop-t l = record {
  len : length l.sums ≡ 16;
  done : (s : ℕ) → s < l.t → value_in l.sums s
      ≡ wrap (value_in l.x (l.k + s) +ℤ value_in l.y (l.k + s));
}
