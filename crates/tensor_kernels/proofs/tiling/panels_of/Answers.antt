use Rattle.std.proofs.Common.{sym, ◌∙◌, arith}
use Rattle.tensor_kernels.specs.private.Cells.{IsChunk}
use Rattle.tensor_dots.proofs.Parts.{each-next}
use Rattle.tensor_kernels.proofs.tiling.panels_of.Goals as goal

pub loop-c-preserved : goal.loop-c-preserved
loop-c-preserved c =
    record {
      chunks = each-next (IsChunk c.args.packing c.args.rows.now)
          c.loop-c.chunks.items c.push_reserved.new.self.items
          c.in_ok-panels_at.field-0 c.loop-c.c
          (sym c.loop-c.invariant.len ∙ c.loop-c.chunks.ok.0) c.push_reserved.ensures.items
          c.in_ok-panels_at.ensures c.loop-c.invariant.chunks;
      len = omega (arith, c.push_reserved.ensures.len, c.loop-c.invariant.len);
      capacity = c.push_reserved.ensures.capacity ∙ c.loop-c.invariant.capacity;
    }
