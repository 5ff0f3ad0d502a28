use Rattle.std.proofs.Common.{subst, refl, ◌∙◌}
use Rattle.expr_reader.specs.Request.{request_of}
use Rattle.tensor_runner.specs.Line.{IsLineFrom}
use Rattle.tensor_runner.specs.Limited.{no_limits}
use Rattle.tensor_runner.specs.declared.limits.Limits.{Limits}
use Rattle.tensor_runner.proofs.Unlimited.{refused-none}
use Rattle.tensor_runner.proofs.engine.prepare.Goals as goal

pub returns-clause-line : goal.returns-clause-line
returns-clause-line g c = λ text known.
    let read = rw known at c.in_ok-kept.ensures.text in
    let logs = c.begin-allowance.result.logs in
    let line : IsLineFrom no_limits logs text c.answer.result =
    subst (λ (l : Limits). IsLineFrom l logs text c.answer.result) (c.begin-allowance.ensures.limits ∙ c.none.ensures)
    (c.answer.ensures text read.taken) in
    record {
      answer = line.own (refused-none (request_of text)) refl;
      left = read.left;
    }
