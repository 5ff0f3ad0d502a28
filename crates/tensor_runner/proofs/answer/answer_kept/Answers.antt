use Rattle.std.proofs.Common.{◌≡◌, length, take, inr, refl, subst, arith}
use Rattle.expr_reader.specs.declared.fault.Fault.TheVariants.{NoMemory, TooLong}
use Rattle.tensor_runner.specs.Line.{IsLineUnder}
use Rattle.tensor_runner.specs.Run.{most_reads}
use Rattle.tensor_runner.proofs.Lines.{IsAnswerTo-counted, short-counted}
use Rattle.tensor_runner.proofs.Refused.{IsLineUnder-take, IsLineUnder-fault}
use Rattle.tensor_runner.proofs.answer.answer_kept.Goals as goal

pub returns-in-Text : goal.returns-in-Text
returns-in-Text g c = λ text is.
    let kept = rw c.in-Text.is at is in
    IsLineUnder-take c.args.allowance.now.limits c.args.allowance.now.logs most_reads text c.answer_text.result (omega arith)
    (subst (λ t. IsLineUnder c.args.allowance.now.limits c.args.allowance.now.logs t c.answer_text.result) kept c.answer_text.ensures)

pub returns-in-Counted : goal.returns-in-Counted
returns-in-Counted g c = λ text is.
    let count : c.in-Counted.count ≡ length (take most_reads text) = rw c.in-Counted.is at is in
    IsLineUnder-fault c.args.allowance.now.limits c.args.allowance.now.logs text TooLong c.too_long.result (IsAnswerTo-counted text c.in-Counted.count count c.if-count-gt-MAX_TEXT.true)
    (record { bytes = c.too_long.ensures.bytes; fault = c.too_long.ensures.fault }) c.too_long.ensures.status c.too_long.ensures.steps

pub returns-in-Counted-2 : goal.returns-in-Counted-2
returns-in-Counted-2 g c = λ text is.
    let count : c.in-Counted.count ≡ length (take most_reads text) = rw c.in-Counted.is at is in
    IsLineUnder-fault c.args.allowance.now.limits c.args.allowance.now.logs text NoMemory c.no_memory.result (inr (refl, short-counted text c.in-Counted.count count c.if-count-gt-MAX_TEXT.false))
    (record { bytes = c.no_memory.ensures.bytes; fault = c.no_memory.ensures.fault }) c.no_memory.ensures.status c.no_memory.ensures.steps
