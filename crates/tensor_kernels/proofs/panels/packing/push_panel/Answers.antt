use Rattle.std.proofs.Common.{length, sym, subst, le_trans, arith}
use Rattle.tensor_kernels.specs.Panels.{AreCells}
use Rattle.tensor_kernels.proofs.PanelPlaces.{are_cells-more}
use Rattle.tensor_kernels.proofs.panels.packing.push_panel.Goals as goal

pub loop-offset-preserved : goal.loop-offset-preserved
loop-offset-preserved c =
    let part = c.args.part.now in
    let starts = c.args.starts.now in
    record {
      cells = subst
          (λ cells. AreCells (length starts) cells part.values.now part.starts.now part.offsets.now)
          (sym c.push_values.ensures.cells)
          (are_cells-more c.loop-offset.packed.items part.values.now part.starts.now
          part.offsets.now starts c.args.p c.loop-offset.offset-index c.requires.some
          c.loop-offset-test.true (omega arith) c.requires.starts c.loop-offset.invariant.cells);
      len = omega (arith, c.push_values.ensures.len, c.loop-offset.invariant.len);
      capacity = le_trans c.loop-offset.invariant.capacity c.push_values.ensures.capacity;
    }
