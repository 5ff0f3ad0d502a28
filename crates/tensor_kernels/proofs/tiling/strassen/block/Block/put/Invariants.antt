-- The block's rows of the columns before j are written, all else is as it was.
use Rattle.std.proofs.Common.{◌≡◌, ℕ, ◌+◌, ◌/◌, ◌<◌, ◌≤◌, length}
use Rattle.tensor_kernels.specs.private.Strassen.{IsPutInBlock}
use Rattle.tensor_values.specs.Values.{value_in}
use Rattle.tensor_kernels.proofs.tiling.strassen.block.Block.put.Given as goal

abbrev pub invariant-loop-j : goal.invariant-loop-j
invariant-loop-j l = record {
  len : length l.out ≡ length l.initial.out;
  put : (k : ℕ) → k < length l.initial.out → (l.from + k) / l.self.rows < l.j
      → IsPutInBlock l.self (l.from + k) (value_in l.initial.out k) (value_in l.out k);
  kept : (k : ℕ) → k < length l.initial.out → l.j ≤ (l.from + k) / l.self.rows
      → value_in l.out k ≡ value_in l.initial.out k;
}
