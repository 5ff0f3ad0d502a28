use Rattle.std.proofs.Common.{length, refl, arith}
use Rattle.tensor_kernels.proofs.TilePlaces.{no-earlier-column, column-of}
use Rattle.tensor_kernels.proofs.tiling.packed_chunk.PackedChunk.put_panel.Goals as goal

pub loop-j-init : goal.loop-j-init
loop-j-init c = record {
  len = refl;
  put = λ k within earlier.
      absurd (no-earlier-column c.args.self.now.rows c.args.from k (omega arith) earlier);
  kept = λ k within later. refl;
}

pub returns-clause-each : goal.returns-clause-each
returns-clause-each c k within =
    c.loop-j.invariant.put k within
    (omega (
      arith,
      column-of c.args.self.now.rows c.args.from (length c.args.out.now) _ k
          c.div_ceil-last.ensures (omega arith) within,
    ))
