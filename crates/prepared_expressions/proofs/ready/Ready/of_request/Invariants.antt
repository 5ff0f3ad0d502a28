-- The bindings left are bound over the tensors so far, and extend them to all tensors.
use Rattle.std.proofs.Common.{◌≡◌, ◌+◌, length, drop}
use Rattle.tensor_ops.specs.Legal.{widest}
use Rattle.tensor_ops.specs.Sequence.{worked_out}
use Rattle.expr_reader.specs.Asked.{asked_under}
use Rattle.expr_reader.specs.Bindings.{AreBound, terms_under}
use Rattle.expr_reader.specs.Request.{tensors_of}
use Rattle.prepared_expressions.proofs.ready.Ready.of_request.Given as goal

abbrev pub invariant-loop-binding : goal.invariant-loop-binding
invariant-loop-binding l = record {
  bounds : l.tensors.bounds ≡ widest;
  bound : AreBound l.fn.request.inputs.bounds (drop l.binding-index l.fn.request.bindings.items) l.tensors.tensors;
  count : length l.tensors.tensors + length (drop l.binding-index l.fn.request.bindings.items)
      ≡ length l.fn.request.inputs.tensors + length l.fn.request.bindings.items;
  tensors : worked_out (terms_under (drop l.binding-index l.fn.request.bindings.items)) l.tensors.tensors
      ≡ tensors_of (asked_under l.fn.request);
}
