-- The bindings so far are read and evaluated.
use Rattle.std.proofs.Common.{◌≡◌, ◌+◌, length}
use Rattle.tensor_ops.specs.Legal.{widest}
use Rattle.prepared_expressions.proofs.TermLists.{IsReadTo}
use Rattle.prepared_expressions.proofs.prepared.read_bound.Given as goal

abbrev pub invariant-loop-before : goal.invariant-loop-before
invariant-loop-before l = record {
  bounds : l.tensors.bounds ≡ widest;
  count : length l.tensors.tensors ≡ length l.fn.inputs.tensors + l._before;
  read : IsReadTo l.fn.inputs.bounds l.fn.inputs.tensors l.numbers l.count l._before l.rest l.tensors.tensors;
}
