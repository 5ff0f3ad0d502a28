-- The chunks before c, and room for all.
use Rattle.std.proofs.Common.{◌≡◌, vec_len, vec_capacity}
use Rattle.tensor_kernels.specs.private.Cells.{AreChunks}
use Rattle.tensor_kernels.proofs.tiling.panels_of.Given as goal

abbrev pub invariant-loop-c : goal.invariant-loop-c
invariant-loop-c l = record {
  chunks : AreChunks l.packing l.rows l.chunks.items;
  len : vec_len l.chunks ≡ l.c;
  capacity : vec_capacity l.chunks ≡ l.count;
}
