use Rattle.std.proofs.Common.{Some, [], refl, ap}
use Rattle.line_uses.proofs.answers_of.Goals as goal

pub returns : goal.returns
returns g c =
    let told = c.answer_lines-ended.ensures.answered c.args.lines.items [] refl (ap Some c.new.ensures.items) in
    rw (c.plain.ensures, c.in_ok-ended.was) at told
