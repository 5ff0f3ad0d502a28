use Rattle.tensor_ops.proofs.Lowerings.{gives-after}
use Rattle.tensor_ops.proofs.evaluator.root.lower_and_sink.Goals as goal

pub returns : goal.returns
returns c = record {
  lowered = gives-after _ c.in_ok-part.part.lowered c.in_ok-part.part.dims _ c.in_ok-part.ensures.lowered c.in_ok-lowered.ensures;
  dims = c.in_ok-part.ensures.dims;
}
