use Rattle.std.proofs.Common.{Some, [], refl, ap}
use Rattle.line_uses.proofs.journal_uses.lines_noted.Goals as goal

pub returns : goal.returns
returns g c = λ kept.
    let told = c.answer_lines-journal.ensures.noted c.args.lines.items [] refl (ap Some c.new.ensures.items) in
    rw (c.none.ensures, c.new-2.ensures.items, kept) at told
