use Rattle.fault_reasons.proofs.Faults.{tells_whole}
use Rattle.fault_reasons.proofs.explanation.explain_whole.Goals as goal

pub returns : goal.returns
returns c = λ found is.
    tells_whole found c.args.fault c.as_slice.result.now c.in_ok-lines.lines.items is
    (rw c.as_slice.ensures.value c.in_ok-reason.ensures) c.in_ok-lines.ensures
