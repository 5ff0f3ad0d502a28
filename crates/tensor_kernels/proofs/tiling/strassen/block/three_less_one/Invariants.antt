-- The sums before t.
use Rattle.std.proofs.Common.{◌≡◌, ℕ, ◌+◌, ◌<◌, ◌+ℤ◌, ◌-ℤ◌, length}
use Rattle.tensor_shape.specs.Wrap.{wrap}
use Rattle.tensor_values.specs.Values.{value_in}
use Rattle.tensor_kernels.proofs.tiling.strassen.block.three_less_one.Given as goal

abbrev pub invariant-loop-t : goal.invariant-loop-t
invariant-loop-t l = record {
  len : length l.sums ≡ 16;
  done : (s : ℕ) → s < l.t → value_in l.sums s
      ≡ wrap (wrap (wrap (value_in l.x (l.k + s) +ℤ value_in l.y (l.k + s))
      +ℤ value_in l.z (l.k + s)) -ℤ value_in l.w (l.k + s));
}
