use Rattle.std.proofs.Common.{rules, ◌≡◌, ◌∙◌, [], ◌∷◌, ◌++◌, ap, sym, map}
use Rattle.std.proofs.lemmas.List.{map_push}
use Rattle.event_count.specs.declared.seat.Seat.{Seat}
use Rattle.event_count.specs.declared.view.Card.{Card}
use Rattle.event_count.specs.Seats.{card_of, seat_id, IsSeatOf}
use Rattle.event_count.specs.Rows.Seats.{row_count_id, IsSilent}
use Rattle.event_count.specs.Rows.Gains.{depositing}
use Rattle.waking_rows.specs.declared.row_point.RowWaiter.{RowWaiter}
use Rattle.waking_rows.specs.Credits.{banking}
use Rattle.waking_rows.proofs.Lists.{All-first, All-rest, All-snoc}
use Rattle.waking_rows.proofs.row_point.waiters_of.Goals as goal

pub invariant_of-push_reserved : goal.invariant_of-push_reserved
invariant_of-push_reserved g c = record {
  silent = ap (λ (d : Card). d.announcing) c.deposit.ensures.card
      ∙ All-first IsSilent _ _ _ c.in-Some.ensures.steps.0 c.loop-seat.invariant.silent;
}

pub loop-seat-preserved : goal.loop-seat-preserved
loop-seat-preserved g c =
    let card : card_of c.deposit.new.seat ≡ banking (card_of c.in-Some.seat) =
    c.deposit.ensures.card
    ∙ ap (λ n. depositing (card_of c.in-Some.seat) n) c.credits-credits.ensures in record {
      cards = ap (map (λ (waiter : RowWaiter). card_of waiter.seat)) c.push_reserved.ensures.items
          ∙ map_push (λ (waiter : RowWaiter). card_of waiter.seat) c.loop-seat.list.items _
          ∙ (λ i. c.loop-seat.invariant.cards i ++ card i ∷ [])
          ∙ sym (map_push (λ (seat : Seat). banking (card_of seat)) c.loop-seat.yielded
          c.in-Some.seat);
      room = search rules;
      silent = All-rest IsSilent _ _ _ c.in-Some.ensures.steps.0 c.loop-seat.invariant.silent;
      others = All-rest (IsSeatOf c.args.count.now) _ _ _ c.in-Some.ensures.steps.0
          c.loop-seat.invariant.others;
      ours = All-snoc (λ (waiter : RowWaiter). seat_id waiter.seat ≡ row_count_id c.args.count.now)
          _ _ _ c.push_reserved.ensures.items c.loop-seat.invariant.ours c.deposit.ensures.of;
    }
