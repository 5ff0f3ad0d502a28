use Rattle.tensor_ops.specs.Sequence.{worked_out}
use Rattle.tensor_reduce.specs.Plan.{terms_in}
use Rattle.tensor_reduce.proofs.StageSteps.{names-stage, dims-stage, schedule-stage, numbers-stage}
use Rattle.tensor_reduce.proofs.StageSteps.{held-left, AreHeld-stage}
use Rattle.tensor_reduce.proofs.running.advance.Goals as goal

pub of_stage-requires-clause-inputs : goal.of_stage-requires-clause-inputs
of_stage-requires-clause-inputs g c κs within =
    let steps = c.args.steps.now in
    let inputs = c.args.inputs.now.tensors in
    names-stage _ _ _
    (held-left steps c.args.done inputs c.args.tensors.now.items c.deref-earlier.result.now
    (worked_out (terms_in steps) inputs) c.deref-earlier.ensures.value c.requires.held)
    c.of-stage.result c.of-stage.ensures.stage

pub of_stage-requires-clause-dims : goal.of_stage-requires-clause-dims
of_stage-requires-clause-dims g c κs within =
    let steps = c.args.steps.now in
    let inputs = c.args.inputs.now.tensors in
    dims-stage _ _ _
    (held-left steps c.args.done inputs c.args.tensors.now.items c.deref-earlier.result.now
    (worked_out (terms_in steps) inputs) c.deref-earlier.ensures.value c.requires.held)
    c.of-stage.result c.of-stage.ensures.stage

pub of_stage-requires-clause-schedule : goal.of_stage-requires-clause-schedule
of_stage-requires-clause-schedule g c κs within =
    let steps = c.args.steps.now in
    let inputs = c.args.inputs.now.tensors in
    schedule-stage _ _ _
    (held-left steps c.args.done inputs c.args.tensors.now.items c.deref-earlier.result.now
    (worked_out (terms_in steps) inputs) c.deref-earlier.ensures.value c.requires.held)
    c.of-stage.result c.of-stage.ensures.stage

pub of_stage-requires-clause-numbers : goal.of_stage-requires-clause-numbers
of_stage-requires-clause-numbers g c κs within =
    let steps = c.args.steps.now in
    let inputs = c.args.inputs.now.tensors in
    numbers-stage _ _ _
    (held-left steps c.args.done inputs c.args.tensors.now.items c.deref-earlier.result.now
    (worked_out (terms_in steps) inputs) c.deref-earlier.ensures.value c.requires.held)
    c.of-stage.result c.of-stage.ensures.stage

pub returns-clause-held : goal.returns-clause-held
returns-clause-held g c =
    let steps = c.args.steps.now in
    let inputs = c.args.inputs.now.tensors in
    AreHeld-stage steps c.args.done inputs c.args.tensors.now.items c.deref-earlier.result.now
    (worked_out (terms_in steps) inputs) c.deref-earlier.ensures.value c.requires.held
    c.of-stage.result c.fused-fused.result c.in_ok-tensor.tensor c.push_freed.new.tensors.items
    c.push_reserved.new.self.items c.fused-fused.ensures c.of-stage.ensures.stage
    c.in_ok-tensor.ensures.tensor c.push_freed.ensures.more c.push_reserved.ensures.items
