-- The cells of the panels before p, and those at the offsets so far.
use Rattle.std.proofs.Common.{◌≡◌, ◌+◌, ◌*◌, ◌≤◌, length, vec_len, vec_capacity}
use Rattle.tensor_kernels.specs.Panels.{AreCells}
use Rattle.tensor_kernels.proofs.panels.packing.push_panel.Given as goal

abbrev pub invariant-loop-offset : goal.invariant-loop-offset
invariant-loop-offset l = record {
  cells : AreCells (length l.starts) l.packed.items l.part.values.now l.part.starts.now
      l.part.offsets.now;
  len : vec_len l.packed
      ≡ l.p * (length l.part.offsets.now * length l.starts) + length l.starts * l.offset-index;
  capacity : vec_capacity l.initial.packed ≤ vec_capacity l.packed;
}
