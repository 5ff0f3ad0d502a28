-- The pop's exchange found another word.
use Rattle.std.proofs.Common.{ap, sym, ◌∙◌}
use Rattle.event_count.specs.Cards.{card_in}
use Rattle.event_count.proofs.Missing.{lost_pop}
use Rattle.event_count.proofs.count.Count.try_notify.Goals as goal

pub returns-else-pop-clause-answer : goal.returns-else-pop-clause-answer
returns-else-pop-clause-answer g c =
    let same = ap (λ x. card_in x.me.0) c.take_look-word.ensures.seat in
    lost_pop _ _ _ _ _ c.take_look-word.ensures.looked _ _ _ same c.in-Pop.ensures
    (c.args.seat.now.below ∙ (sym c.take_look-word.ensures.next ∙ c.in-Some.is))
    c.after_pop.ensures c.if-pop.ensures.card
