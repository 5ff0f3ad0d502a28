-- What is padded along the first axes.
use Rattle.std.proofs.Common.{◌≡◌}
use Rattle.tensor_terms.specs.Padding.{padded_dims, padded}
use Rattle.tensor_ops.specs.private.Lowering.{Gives, meaning_at}
use Rattle.tensor_terms.proofs.Pads.{first_pads}
use Rattle.tensor_ops.proofs.lowering.interleaving.lower_pad.Given as goal

abbrev pub invariant-loop-axis : goal.invariant-loop-axis
invariant-loop-axis l = record {
  dims : l.padded.dims ≡ padded_dims (first_pads l.axis l.pairs) l.fn.operand.dims;
  lowered : Gives l.padded.lowered l.padded.dims
      (padded (first_pads l.axis l.pairs) l.fn.operand.dims (meaning_at l.fn.operand.lowered l.fn.operand.dims));
}
