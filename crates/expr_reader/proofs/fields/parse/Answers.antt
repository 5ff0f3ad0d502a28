use Rattle.std.proofs.Common.{inr, refl, ◌∙◌}
use Rattle.expr_reader.proofs.Data.{reading-utf8, reading-not_utf8}
use Rattle.expr_reader.proofs.fields.parse.Goals as goal

pub returns-in_default : goal.returns-in_default
returns-in_default c = inr (refl, reading-not_utf8 c.args.text.now c.in_default.ensures.cases.0)

pub returns-in-Ok-from_str : goal.returns-in-Ok-from_str
returns-in-Ok-from_str c =
    let cases = rw c.in-Ok.is at c.from_utf8.ensures.cases in
    reading-utf8 c.args.text.now cases.1 ∙ rw (← cases.0) c.in-Ok-from_str.ensures.ok
