use Rattle.std.proofs.Common.{◌≡◌, ◌+◌, ◌/◌, ◌∙◌, sym, refl, arith, ap, map, take, subst, All, []}
use Rattle.std.specs.Arc.{arc_value}
use Rattle.std.proofs.lemmas.List.Elements.{All-drop, All-weaker}
use Rattle.event_word.specs.Step.{row_limit}
use Rattle.event_word.specs.declared.phase.Phase.TheVariants.{Running}
use Rattle.event_count.specs.declared.seat.Seat.{Seat}
use Rattle.event_count.specs.Seats.{card_of, seat_id}
use Rattle.event_count.specs.Rows.Seats.{row_count_id}
use Rattle.waking_rows.specs.declared.row_point.RowWaiter.{RowWaiter}
use Rattle.waking_rows.specs.Credits.{banking, HasBanked}
use Rattle.waking_rows.specs.Seats.{first_credits}
use Rattle.waking_rows.proofs.Lists.{length-numbered}
use Rattle.waking_rows.proofs.Opened.{sizes_for, waiter_cards, waiter_numbers, all_waiters, banked_first}
use Rattle.waking_rows.proofs.Opened.{all_credits}
use Rattle.waking_rows.proofs.opening.on_one_count.Goals as goal

pub returns-clause-numbers : goal.returns-clause-numbers
returns-clause-numbers g c =
    let k = sizes_for c.args.workers (c.args.workers + 2) c.credits_each.result in
    let from = ap (λ n. n + 1) c.from-3.ensures in
    waiter_numbers k _ _ (waiter_cards k _ _ c.in-Ok.seats.items _ c.in-Ok.ensures.cards (omega arith)
    (c.in_ok-waiters.ensures.cards ∙ ap (map (λ seat. banking (card_of seat)))
    (c.in_ok-others.ensures.items ∙ ap (λ n. take n c.in-Ok.seats.items) from)))

pub returns-clause-all : goal.returns-clause-all
returns-clause-all g c =
    length-numbered (λ (waiter : RowWaiter). (card_of waiter.seat).number) _ _
    (returns-clause-numbers g c)

pub returns-clause-running : goal.returns-clause-running
returns-clause-running g c =
    let k = sizes_for c.args.workers (c.args.workers + 2) c.credits_each.result in
    let from = ap (λ n. n + 1) c.from-3.ensures in
    all_waiters k (λ d. d.phase ≡ Running) (λ n. refl) _ _
    (waiter_cards k _ _ c.in-Ok.seats.items _ c.in-Ok.ensures.cards (omega arith)
    (c.in_ok-waiters.ensures.cards ∙ ap (map (λ seat. banking (card_of seat)))
    (c.in_ok-others.ensures.items ∙ ap (λ n. take n c.in-Ok.seats.items) from)))

pub returns-clause-owe_none : goal.returns-clause-owe_none
returns-clause-owe_none g c =
    let k = sizes_for c.args.workers (c.args.workers + 2) c.credits_each.result in
    let from = ap (λ n. n + 1) c.from-3.ensures in
    all_waiters k (λ d. d.owing ≡ []) (λ n. refl) _ _
    (waiter_cards k _ _ c.in-Ok.seats.items _ c.in-Ok.ensures.cards (omega arith)
    (c.in_ok-waiters.ensures.cards ∙ ap (map (λ seat. banking (card_of seat)))
    (c.in_ok-others.ensures.items ∙ ap (λ n. take n c.in-Ok.seats.items) from)))

pub returns-clause-banked : goal.returns-clause-banked
returns-clause-banked g c =
    let k = sizes_for c.args.workers (c.args.workers + 2) c.credits_each.result in
    let from = ap (λ n. n + 1) c.from-3.ensures in
    let share : c.credits_each.result ≡ first_credits c.args.workers =
    c.credits_each.ensures
    ∙ ap (λ n. row_limit / n) (omega (arith, c.from.ensures, c.from-2.ensures)) in
    all_waiters k (λ d. HasBanked d (first_credits c.args.workers))
    (λ n. banked_first k (first_credits c.args.workers) n share) _ _
    (waiter_cards k _ _ c.in-Ok.seats.items _ c.in-Ok.ensures.cards (omega arith)
    (c.in_ok-waiters.ensures.cards ∙ ap (map (λ seat. banking (card_of seat)))
    (c.in_ok-others.ensures.items ∙ ap (λ n. take n c.in-Ok.seats.items) from)))

pub returns-clause-ours : goal.returns-clause-ours
returns-clause-ours g c =
    let same = ap row_count_id (c.in_ok-try_clone.ensures ∙ c.in-Ok-new.ensures.ok) in
    let ours = λ (waiter : RowWaiter). seat_id waiter.seat
    ≡ row_count_id (arc_value c.in_ok-try_clone.field-0) in
    All-weaker _ ours (λ waiter at. at ∙ sym same) _ c.in_ok-waiters.ensures.ours

pub returns-clause-credits : goal.returns-clause-credits
returns-clause-credits g c =
    let each = λ (seat : Seat). (card_of seat).credits ≡ first_credits c.args.workers in
    let share : c.credits_each.result ≡ first_credits c.args.workers =
    c.credits_each.ensures
    ∙ ap (λ n. row_limit / n) (omega (arith, c.from.ensures, c.from-2.ensures)) in
    let all = all_credits (sizes_for c.args.workers (c.args.workers + 2) c.credits_each.result) _ _
    c.in-Ok.ensures.cards in
    c.in-Ok-rows_over.ensures.credits _ (subst (All each) (sym c.in_ok-others.ensures.tail)
    (All-drop each _ _ (subst
    (λ n. All (λ (seat : Seat). (card_of seat).credits ≡ n) c.in-Ok.seats.items) share all)))
