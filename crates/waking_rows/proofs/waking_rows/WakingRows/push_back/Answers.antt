use Rattle.std.proofs.Common.{◌≡◌, ◌∙◌, ap, refl, sym, subst}
use Rattle.event_count.specs.declared.view.BankBook.{BankBook}
use Rattle.event_count.specs.declared.view.Card.{Card}
use Rattle.event_count.specs.Kinds.{with_rows}
use Rattle.event_count.specs.Seats.{card_of}
use Rattle.event_count.specs.Waits.{RestsOnNotify}
use Rattle.waking_rows.specs.Credits.{GoesToBank, funds_of}
use Rattle.waking_rows.specs.Seats.{credits_by, book_by}
use Rattle.waking_rows.specs.Tickets.{giving_back}
use Rattle.waking_rows.proofs.Puts.{adds-job, err-too, gave_back, if-some}
use Rattle.waking_rows.proofs.waking_rows.WakingRows.push_back.Goals as goal

pub returns-clause-puts : goal.returns-clause-puts
returns-clause-puts g c =
    adds-job _ _ _ _ _ c.announce.ensures.answer c.push_back-laid.ensures.puts

pub returns-clause-refused : goal.returns-clause-refused
returns-clause-refused g c =
    let seat = c.args.seat.now in
    let funded = card_of c.fund.new.seat in
    let booked : (card_of c.announce.new.seat).book ≡ funded.book =
    c.announce.ensures.book ∙ ap (λ (d : Card). d.book) c.in-Some.ensures.card in
    let funds : funds_of (credits_by seat) (book_by seat) (card_of c.announce.new.seat).book
    ≡ funded.credits =
    ap (λ (book : BankBook). funds_of (credits_by seat) (book_by seat) book) booked
    ∙ sym c.fund.ensures.funds in
    let some : funded.credits ≡ 0 → ⊥ =
    λ none. let is = c.in-Some.ensures.none.1 none in absurd (cc) in
    record {
      bank = subst (λ (book : BankBook). GoesToBank (credits_by seat) (book_by seat) book)
          (sym booked) c.fund.ensures.bank;
      unpaid = λ none. absurd (some (sym funds ∙ none));
      unclaimed = λ none. absurd (some (sym funds ∙ none));
      paid = λ _. record {
        once = c.push_back-laid.ensures.claim;
        refused = err-too _ _ _ c.announce.ensures.answer c.push_back-laid.ensures.full;
      };
    }

pub returns-clause-steps : goal.returns-clause-steps
returns-clause-steps g c =
    let funded = card_of c.fund.new.seat in
    let laid = c.push_back-laid.result in
    let some : funded.credits ≡ 0 → ⊥ =
    λ none. let is = c.in-Some.ensures.none.1 none in absurd (cc) in
    let put = ap (giving_back laid) c.in-Some.ensures.card
    ∙ gave_back laid c.announce.result _ funded c.args.row c.args.row c.announce.ensures.answer
    c.push_back-laid.ensures.returned c.in-Some.ensures.row refl in (
      funded,
      c.fund.ensures.card,
      if-some _ _ funded.credits some
          (subst (λ (d : Card). RestsOnNotify with_rows d (card_of c.announce.new.seat)) put
          c.announce.ensures.steps),
    )
