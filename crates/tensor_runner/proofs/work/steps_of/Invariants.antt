-- The steps of the bindings done are counted.
use Rattle.std.proofs.Common.{◌≡◌, List}
use Rattle.expr_reader.specs.Contents.{Contents}
use Rattle.expr_reader.specs.Tree.{term_of}
use Rattle.tensor_runner.specs.private.Left.{AreCounted}
use Rattle.tensor_runner.proofs.work.steps_of.Given as goal

abbrev pub invariant-loop-done : goal.invariant-loop-done
invariant-loop-done l = record {
  all : l.binding-items ≡ l.request.bindings.items;
  counted : (tensors : List Contents)
      × AreCounted l.request.inputs.bounds l.request.inputs.tensors l.request.bindings.items
      (term_of l.request.expr) l.done l.steps tensors;
}
