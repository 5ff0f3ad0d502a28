use Rattle.std.proofs.Common.{sym, ◌∙◌}
use Rattle.tensor_kernels.specs.Contracting.{contraction_count, contraction_value}
use Rattle.tensor_ops.specs.private.Operand.{operand_count, operand_at}
use Rattle.tensor_ops.specs.private.Lowering.{meaning_at}
use Rattle.tensor_ops.proofs.Worked.{values-contracted}
use Rattle.tensor_ops.proofs.lowering.ready.contraction_of.Goals as goal

pub returns : goal.returns
returns c =
    let made = c.in_ok-contraction.contraction in
    let first = c.in_ok-left.left in
    let second = c.in_ok-right.right in
    record {
      dims = sym c.contracted_dims.ensures ∙ c.unwrap-dims.ensures;
      values = values-contracted c.args.pairs.now c.args.first.dims c.args.second.dims c.unwrap-dims.result
          (operand_count first) (operand_count second) (contraction_count made) (operand_at first)
          (operand_at second) (contraction_value made)
          (meaning_at c.args.first.lowered c.args.first.dims)
          (meaning_at c.args.second.lowered c.args.second.dims) (sym c.contracted_dims.ensures ∙ c.unwrap-dims.ensures)
          c.in_ok-left.ensures c.in_ok-right.ensures c.in_ok-contraction.ensures.count
          c.in_ok-contraction.ensures.each;
    }
