use Rattle.std.proofs.Common.{rules, ◌+◌, ap, sym, ◌∙◌, arith}
use Rattle.event_count.specs.declared.rule.RowSizes.{RowSizes}
use Rattle.event_count.specs.declared.view.Card.{Card}
use Rattle.event_count.specs.Plays.{Sat}
use Rattle.event_count.proofs.RowSteps.Publishing.{take_keeps_at}
use Rattle.event_count.proofs.RowSteps.Tokens.{take_keeps, the_first, taken_card, taken_view}
use Rattle.event_count.proofs.rows.publishing.Count+Rowed+A.take.Goals as goal

pub join_seat-requires : goal.join_seat-requires
join_seat-requires g c =
    let one = ap the_first (sym c.into_seat.ensures.2 ∙ c.args.ticket.one) in (
      search rules,
      c.into_seat.ensures.0 ∙ c.requires.ours,
      c.into_seat.ensures.3,
      let words = c.args.self.now.words in omega arith,
      take_keeps _ _ _ _ _ _ c.args.seat.now.alone one,
    )

pub fetch_sub-requires : goal.fetch_sub-requires
fetch_sub-requires g c =
    let kept = ap (λ (k : RowSizes). k.waiters + k.rows) c.args.self.now.kept in
    let words = c.args.self.now.words in let lines = c.lines.ensures.sum in
    let place = c.row_word_of-place.ensures in
    let one = ap the_first (sym c.into_seat.ensures.2 ∙ c.args.ticket.one) in
    let is = ap (λ (m : Sat). m.0) c.join_seat.ensures.2 in
    let card = taken_card _ _ _ c.args.ticket.row c.args.seat.now.alone one is in (
      search rules,
      omega arith,
      take_keeps_at _ _ _ _ c.args.ticket.row
          (taken_view _ _ _ c.args.ticket.row c.args.seat.now.alone one is)
          (ap (λ (d : Card). d.phase) card ∙ c.requires.running)
          (ap (λ (d : Card). d.owing) card ∙ c.requires.owes_none) _ (omega arith),
    )
