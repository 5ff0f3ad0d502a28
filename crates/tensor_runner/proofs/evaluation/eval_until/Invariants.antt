-- The tensors that the bindings left read are held.
use Rattle.std.proofs.Common.{◌≡◌, List, drop}
use Rattle.expr_reader.specs.Bindings.{terms_under}
use Rattle.expr_reader.specs.Contents.{Contents}
use Rattle.expr_reader.specs.Legal.{widest}
use Rattle.expr_reader.specs.Sequence.{worked_out}
use Rattle.expr_reader.specs.Tree.{term_of}
use Rattle.tensor_runner.specs.private.Held.{AreHeldFor}
use Rattle.tensor_runner.specs.private.Left.{AreLeft}
use Rattle.tensor_runner.proofs.evaluation.eval_until.Given as goal

abbrev pub invariant-loop-done : goal.invariant-loop-done
invariant-loop-done g l = record {
  all : l.binding-items ≡ l.request.bindings.items;
  held : (tensors : List Contents)
      × AreLeft l.request.inputs.bounds (drop l.done l.request.bindings.items) (term_of l.request.expr)
      (worked_out (terms_under l.request.bindings.items) l.request.inputs.tensors) tensors
      × AreHeldFor (drop l.done l.request.bindings.items) (term_of l.request.expr) l.tensors.tensors
      tensors;
  bounds : l.tensors.bounds ≡ widest;
}
