-- One more seat is taken in.
use Rattle.std.proofs.Common.{rules, ◌≡◌, ◌∙◌, ◌++◌, ◌∷◌, [], List, sym, ap, map, reverse, Some}
use Rattle.std.proofs.lemmas.List.{append_assoc, map-append, reverse-append}
use Rattle.std.proofs.lemmas.List.Elements.{All-pop}
use Rattle.event_count.specs.declared.view.Card.{Card}
use Rattle.event_count.specs.declared.seat.Seat.{Seat}
use Rattle.event_count.specs.Plays.{Sat}
use Rattle.event_count.specs.Seats.{card_of, seat_id}
use Rattle.event_count.proofs.Dealing.{join_keeps}
use Rattle.event_count.proofs.gathering.gather.Goals as goal

pub join_seat-requires : goal.join_seat-requires
join_seat-requires g c =
    let seat = c.in-Some.seat in
    let ours : Seat → Type 0 = λ x. seat_id x ≡ c.args.shared.now.table_id in (
      search rules,
      (All-pop ours _ c.pop.new.self.items (Some seat) c.in-Some.ensures.items
          c.loop-seat.invariant.ours).1,
      seat.none_held,
      search rules,
      join_keeps _ _ _ _ _,
    )

pub loop-seat-preserved : goal.loop-seat-preserved
loop-seat-preserved g c =
    let seat = c.in-Some.seat in
    let ours : Seat → Type 0 = λ x. seat_id x ≡ c.args.shared.now.table_id in
    let left = c.pop.new.self.items in
    let had : List Card = c.loop-seat.keeper.me.0.cards in
    let joined = c.join_seat.ensures in
    let items = c.in-Some.ensures.items in record {
      of = joined.0 ∙ c.loop-seat.invariant.of;
      none_held = ap {A = Sat} (λ m. m.1) joined.2 ∙ c.loop-seat.invariant.none_held;
      ours = (All-pop ours _ left (Some seat) items c.loop-seat.invariant.ours).0;
      cards = ap (λ xs. xs ++ reverse (map card_of left))
          (ap {A = Sat} (λ m. m.0.cards) joined.2 ∙ ap (λ v. had ++ v.cards) seat.alone)
          ∙ (append_assoc had (card_of seat ∷ []) (reverse (map card_of left))
          ∙ (ap (λ xs. had ++ xs) (sym (reverse-append (map card_of left) (card_of seat ∷ [])))
          ∙ (ap (λ xs. had ++ reverse xs) (sym (map-append card_of left (seat ∷ [])))
          ∙ (ap (λ xs. had ++ reverse (map card_of xs)) (sym items)
          ∙ c.loop-seat.invariant.cards))));
    }
