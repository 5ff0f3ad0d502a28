use Rattle.std.proofs.Common.{◌≡◌, ◌∙◌, true, false, ap, ℕ, sym}
use Rattle.tensor_runner.specs.Limited.{is_over}
use Rattle.frame_server.specs.Limited.{is_longer}
use Rattle.frame_server.proofs.Answering.{IsFrameFrom-long, IsFrameFrom-read}
use Rattle.frame_server.proofs.answer.answer.Goals as goal

pub returns-then-is_too_long : goal.returns-then-is_too_long
returns-then-is_too_long g c = λ bytes whole is.
    let long : is_longer c.args.allowance.now.limits bytes ≡ true =
    ap (λ (n : ℕ). is_over c.args.allowance.now.limits.bytes n) (sym (c.len.ensures bytes whole is)) ∙ sym c.is_too_long.ensures ∙ c.if-is_too_long.true in
    IsFrameFrom-long c.args.allowance.now.limits c.args.allowance.now.logs bytes c.too_long.result long c.too_long.ensures.bytes c.too_long.ensures.fault c.too_long.ensures.steps

pub returns : goal.returns
returns g c = λ bytes whole is.
    let short : is_longer c.args.allowance.now.limits bytes ≡ false =
    ap (λ (n : ℕ). is_over c.args.allowance.now.limits.bytes n) (sym (c.len.ensures bytes whole is)) ∙ sym c.is_too_long.ensures ∙ c.if-is_too_long.false in
    IsFrameFrom-read c.args.allowance.now.limits c.args.allowance.now.logs bytes c.answer_kept.result short (c.answer_kept.ensures bytes whole is)
