use Rattle.std.proofs.Common.{rules, arith, ap, sym, ◌∙◌}
use Rattle.event_count.specs.declared.view.View.{View}
use Rattle.event_count.specs.Cards.{only, card_in}
use Rattle.event_count.specs.Plays.{Sat}
use Rattle.event_count.proofs.RowSteps.Tokens.{accept_keeps, the_first}
use Rattle.event_count.proofs.RowSteps.Passing.{weigh_keeps}
use Rattle.event_count.proofs.rows.publishing.Count+Rowed+A.accept.Goals as goal

pub join_seat-requires : goal.join_seat-requires
join_seat-requires g c =
    let one = ap the_first (sym c.into_seat.ensures.2 ∙ c.args.credit.one) in (
      search rules,
      c.into_seat.ensures.0 ∙ c.requires.ours,
      c.into_seat.ensures.3,
      let words = c.args.self.now.words in omega arith,
      accept_keeps _ _ _ _ _ c.args.seat.now.alone one,
    )

pub load-requires : goal.load-requires
load-requires g c = (
  search rules,
  let words = c.args.self.now.words in omega arith,
  (let is = ap (λ (m : Sat). m.0) c.join_seat.ensures.2 in
      weigh_keeps _ _ _ _ (is ∙ sym (ap (λ (v : View). only (card_in v)) is))),
)
