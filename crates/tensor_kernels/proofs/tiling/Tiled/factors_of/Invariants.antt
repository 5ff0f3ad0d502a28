-- The factors of the pairs before i, and room for all.
use Rattle.std.proofs.Common.{◌≡◌, vec_len, vec_capacity}
use Rattle.tensor_kernels.specs.private.PairedBands.{AreOfColumns}
use Rattle.tensor_kernels.proofs.tiling.Tiled.factors_of.Given as goal

abbrev pub invariant-loop-i : goal.invariant-loop-i
invariant-loop-i l = record {
  each : AreOfColumns l.self l.column l.columns l.first l.factors.items;
  len : vec_len l.factors ≡ l.i;
  capacity : vec_capacity l.factors ≡ l.count;
}
