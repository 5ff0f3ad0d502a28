-- The starts so far, and room for all.
use Rattle.std.proofs.Common.{◌≡◌, ℕ, ◌-◌, ◌<◌, length, min, slice_index, vec_len, vec_capacity}
use Rattle.tensor_kernels.proofs.panels.packing.padded.Given as goal

abbrev pub invariant-loop-x : goal.invariant-loop-x
invariant-loop-x l = record {
  each : (x : ℕ) → x < l.x
      → slice_index l.padded.items x ≡ slice_index l.starts (min x (length l.starts - 1));
  len : vec_len l.padded ≡ l.x;
  capacity : vec_capacity l.padded ≡ l.count;
}
