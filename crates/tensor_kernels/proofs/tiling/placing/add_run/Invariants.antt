-- The sums before k are written, and all others as they were.
use Rattle.std.proofs.Common.{◌≡◌, ℕ, ◌<◌, ◌≤◌, ◌+ℤ◌, length}
use Rattle.tensor_shape.specs.Wrap.{wrap}
use Rattle.tensor_kernels.specs.Chunks.{before}
use Rattle.tensor_values.specs.Values.{value_in}
use Rattle.tensor_kernels.proofs.tiling.placing.add_run.Given as goal

abbrev pub invariant-loop-k : goal.invariant-loop-k
invariant-loop-k l = record {
  len : length l.out ≡ length l.initial.out;
  written : (i : ℕ) → i < l.k → value_in l.out i
      ≡ wrap (before l.c (value_in l.initial.out i) +ℤ value_in l.sums i);
  kept : (i : ℕ) → l.k ≤ i → value_in l.out i ≡ value_in l.initial.out i;
}
