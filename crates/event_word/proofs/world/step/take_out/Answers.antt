use Rattle.std.proofs.Common.{◌==◌, position, sym, ap, ◌∙◌}
use Rattle.event_word.proofs.Owing.{remove-position, without-nowhere}
use Rattle.event_word.proofs.world.step.take_out.Goals as goal

pub returns-in-Some-clause-items : goal.returns-in-Some-clause-items
returns-in-Some-clause-items g c =
    let found = ap (λ xs. position (λ x. x == c.args.seat) xs) (sym c.deref.ensures.value)
    ∙ (sym c.place_of.ensures ∙ c.in-Some.is) in
    c.remove.ensures.items ∙ remove-position c.args.seat c.args.list.now.items c.in-Some.place found

pub returns-in_default-clause-items : goal.returns-in_default-clause-items
returns-in_default-clause-items g c =
    let none = ap (λ xs. position (λ x. x == c.args.seat) xs) (sym c.deref.ensures.value)
    ∙ (sym c.place_of.ensures ∙ c.in_default.is) in
    sym (without-nowhere c.args.seat c.args.list.now.items none)
