use Rattle.std.proofs.Common.{List, subst, sym, IsOk}
use Rattle.tensor_ops.specs.Bounds.{Bounds}
use Rattle.tensor_ops.specs.Contents.{Contents}
use Rattle.tensor_ops.specs.Legal.{widest, IsPossible}
use Rattle.tensor_ops.specs.Result.{dims_of}
use Rattle.tensor_ops.specs.Term.{Term}
use Rattle.tensor_ops.specs.Tree.{term_of}
use Rattle.tensor_ops.proofs.Widening.{dims_of-wider}
use Rattle.tensor_reduce.proofs.Planned.{length-steps_of, AreReady-steps_of}
use Rattle.tensor_reduce.proofs.Planned.{worked_out-steps_of, last_tensor-steps_of}
use Rattle.tensor_reduce.proofs.plan.Plan.of.Goals as goal

-- what the bounds of the inputs allow is allowed where dims go as far as they may
wider : (bounds : Bounds) (t : Term) (inputs : List Contents) → IsPossible bounds → IsOk (dims_of bounds t inputs)
    → IsOk (dims_of widest t inputs)
wider bounds t inputs within has = subst (λ r. IsOk r) (sym ((dims_of-wider bounds within t inputs).same has)) has

pub steps_of-requires-clause-dims : goal.steps_of-requires-clause-dims
steps_of-requires-clause-dims c =
    wider c.args.inputs.now.bounds (term_of c.args.expr.now) c.args.inputs.now.tensors c.bounds-limit.ensures.limit c.requires.dims

pub returns-clause-few : goal.returns-clause-few
returns-clause-few c = length-steps_of c.args.inputs.now.tensors (term_of c.args.expr.now)
    c.in_ok-steps.steps.items c.in_ok-steps.ensures

pub returns-clause-root : goal.returns-clause-root
returns-clause-root c =
    last_tensor-steps_of c.args.inputs.now.tensors (term_of c.args.expr.now) c.in_ok-steps.steps.items
    c.requires.inputs
    (wider c.args.inputs.now.bounds (term_of c.args.expr.now) c.args.inputs.now.tensors c.bounds-limit.ensures.limit c.requires.dims)
    c.in_ok-steps.ensures

pub returns-clause-ready : goal.returns-clause-ready
returns-clause-ready c =
    AreReady-steps_of c.args.inputs.now.tensors (term_of c.args.expr.now) c.in_ok-steps.steps.items
    c.requires.inputs
    (wider c.args.inputs.now.bounds (term_of c.args.expr.now) c.args.inputs.now.tensors c.bounds-limit.ensures.limit c.requires.dims)
    c.in_ok-steps.ensures

pub returns-clause-tensors : goal.returns-clause-tensors
returns-clause-tensors c =
    worked_out-steps_of c.args.inputs.now.tensors (term_of c.args.expr.now) c.in_ok-steps.steps.items
    c.requires.inputs
    (wider c.args.inputs.now.bounds (term_of c.args.expr.now) c.args.inputs.now.tensors c.bounds-limit.ensures.limit c.requires.dims)
    c.in_ok-steps.ensures
