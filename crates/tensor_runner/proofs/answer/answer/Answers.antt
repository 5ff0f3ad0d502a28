use Rattle.std.proofs.Common.{◌≡◌, ◌∙◌, true, false, ap, ℕ, sym}
use Rattle.tensor_runner.specs.Limited.{is_longer, is_over}
use Rattle.tensor_runner.proofs.Refused.{IsLineFrom-long, IsLineFrom-read}
use Rattle.tensor_runner.proofs.Streams.{kept-len}
use Rattle.tensor_runner.proofs.answer.answer.Goals as goal

pub returns-then-is_too_long : goal.returns-then-is_too_long
returns-then-is_too_long g c = λ text is.
    let counted = c.len.ensures ∙ kept-len text c.args.kept is in
    let long : is_longer c.args.allowance.now.limits text ≡ true =
    ap (λ (n : ℕ). is_over c.args.allowance.now.limits.bytes n) (sym counted) ∙ sym c.is_too_long.ensures ∙ c.if-is_too_long.true in
    IsLineFrom-long c.args.allowance.now.limits c.args.allowance.now.logs text c.too_long.result long c.too_long.ensures.bytes c.too_long.ensures.fault c.too_long.ensures.steps

pub returns : goal.returns
returns g c = λ text is.
    let counted = c.len.ensures ∙ kept-len text c.args.kept is in
    let short : is_longer c.args.allowance.now.limits text ≡ false =
    ap (λ (n : ℕ). is_over c.args.allowance.now.limits.bytes n) (sym counted) ∙ sym c.is_too_long.ensures ∙ c.if-is_too_long.false in
    IsLineFrom-read c.args.allowance.now.limits c.args.allowance.now.logs text c.answer_kept.result short (c.answer_kept.ensures text is)
