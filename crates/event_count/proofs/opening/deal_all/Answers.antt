-- The loop takes the keeper's cards one by one.
use Rattle.std.proofs.Common.{◌≡◌, ◌+◌, ◌-◌, ◌∷◌, ◌++◌, subst, sym, ap, ◌∙◌, arith, map}
use Rattle.std.proofs.Common.{All, []}
use Rattle.std.proofs.lemmas.List.{map-append}
use Rattle.std.proofs.lemmas.List.Elements.{All-nil, All-cons, All-append}
use Rattle.event_count.specs.declared.seat.Seat.{Seat}
use Rattle.event_count.specs.Cards.{opening_card, view}
use Rattle.event_count.specs.Seats.{card_of, seat_id, HasNoLook}
use Rattle.event_count.proofs.First.{fresh_from, fresh_from-more, some_left, next_card}
use Rattle.event_count.proofs.First.{others_left}
use Rattle.event_count.proofs.Fresh.{as_many}
use Rattle.event_count.proofs.opening.deal_all.Goals as goal

pub deal-requires-clause-left : goal.deal-requires-clause-left
deal-requires-clause-left g c =
    let less = c.loop-number-test.true in let k = c.args.sizes.now in
    some_left k _ c.loop-number.number (k.waiters + k.notifiers - c.loop-number.number)
    c.loop-number.invariant.left (omega arith)

pub deal-requires-clause-next : goal.deal-requires-clause-next
deal-requires-clause-next g c =
    let less = c.loop-number-test.true in let k = c.args.sizes.now in
    next_card k _ c.loop-number.number (k.waiters + k.notifiers - c.loop-number.number)
    c.loop-number.invariant.left (omega arith)

pub push_reserved-requires : goal.push_reserved-requires
push_reserved-requires g c =
    omega (
      arith,
      as_many c.args.sizes.now c.loop-number.seats.items c.loop-number.number
          c.loop-number.invariant.cards,
      c.loop-number.invariant.room,
      c.loop-number-test.true,
    )

pub loop-number-preserved : goal.loop-number-preserved
loop-number-preserved g c =
    let less = c.loop-number-test.true in
    let k = c.args.sizes.now in
    let number = c.loop-number.number in
    let count = k.waiters + k.notifiers in
    let items = c.push_reserved.ensures.items in
    let seats = c.loop-number.seats.items in
    let ours : Seat → Type 0 = λ seat. seat_id seat ≡ c.args.shared.now.table_id in
    let from_zero : number ≡ 0 + number = omega arith in
    let fewer : count - number - 1 ≡ count - (number + 1) = omega arith in record {
      cards = ap (map card_of) items ∙ (map-append card_of seats (c.deal.result ∷ [])
          ∙ ((λ i. c.loop-number.invariant.cards i ++ c.deal.ensures.card i ∷ [])
          ∙ (ap (λ n. fresh_from k 0 number ++ opening_card k n ∷ []) from_zero
          ∙ sym (fresh_from-more k 0 number))));
      room = c.push_reserved.ensures.capacity ∙ c.loop-number.invariant.room;
      ours = subst (All ours) (sym items) (All-append ours seats (c.deal.result ∷ [])
          c.loop-number.invariant.ours (All-cons ours c.deal.result []
          (c.deal.ensures.seat ∙ c.loop-number.invariant.of) (All-nil ours)));
      unlooked = subst (All HasNoLook) (sym items) (All-append HasNoLook seats
          (c.deal.result ∷ []) c.loop-number.invariant.unlooked
          (All-cons HasNoLook c.deal.result [] c.deal.ensures.unlooked (All-nil HasNoLook)));
      of = c.deal.ensures.of ∙ c.loop-number.invariant.of;
      left = others_left k c.loop-number.keeper.me number (count - number)
          c.loop-number.invariant.left (omega arith) c.deal.new.keeper.me c.deal.ensures.left
          ∙ ap (λ n. (view (fresh_from k (number + 1) n), [])) fewer;
    }
