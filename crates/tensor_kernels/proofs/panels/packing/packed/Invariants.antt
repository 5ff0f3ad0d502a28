-- The cells of the panels before p, and room for all.
use Rattle.std.proofs.Common.{◌≡◌, ◌*◌, ◌≤◌, length, vec_len, vec_capacity}
use Rattle.tensor_kernels.specs.Panels.{AreCells}
use Rattle.tensor_kernels.proofs.panels.packing.packed.Given as goal

abbrev pub invariant-loop-p : goal.invariant-loop-p
invariant-loop-p l = record {
  cells : AreCells l.height l.packed.items l.part.values.now l.part.starts.now l.part.offsets.now;
  len : vec_len l.packed ≡ l.p * (length l.part.offsets.now * l.height);
  capacity : l.panels * (length l.part.offsets.now * l.height) ≤ vec_capacity l.packed;
}
