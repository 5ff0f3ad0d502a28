-- The products of the pairs before i are added up.
use Rattle.std.proofs.Common.{◌*◌}
use Rattle.tensor_kernels.specs.private.PairedBands.{AreGathered}
use Rattle.tensor_kernels.specs.private.Strassen.{AreLong}
use Rattle.tensor_kernels.proofs.tiling.Tiled.gather.Given as goal

abbrev pub invariant-loop-i : goal.invariant-loop-i
invariant-loop-i l = record {
  long : AreLong (16 * l.band.half) l.products;
  so_far : AreGathered l.self l.band l.b l.i l.products;
}
