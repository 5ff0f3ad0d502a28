use Rattle.std.proofs.Common.{◌+◌, sym, ◌∙◌, arith}
use Rattle.tensor_kernels.specs.private.PairedBands.{IsOfColumns}
use Rattle.tensor_dots.proofs.Parts.{each-next}
use Rattle.tensor_kernels.proofs.tiling.Tiled.factors_of.Goals as goal

pub loop-i-preserved : goal.loop-i-preserved
loop-i-preserved c =
    record {
      each = each-next
          (λ i f. IsOfColumns c.args.self.now c.args.column c.args.columns (c.args.first + i) f)
          c.loop-i.factors.items c.push_reserved.new.self.items
          c.in_ok-factors_at.field-0 c.loop-i.i
          (sym c.loop-i.invariant.len ∙ c.loop-i.factors.ok.0) c.push_reserved.ensures.items
          c.in_ok-factors_at.ensures c.loop-i.invariant.each;
      len = omega (arith, c.push_reserved.ensures.len, c.loop-i.invariant.len);
      capacity = c.push_reserved.ensures.capacity ∙ c.loop-i.invariant.capacity;
    }
