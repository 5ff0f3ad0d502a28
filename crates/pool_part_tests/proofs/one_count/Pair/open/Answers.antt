use Rattle.std.proofs.Common.{rules, ◌≡◌, ◌∙◌, ℕ, ◌<◌, ap, sym, slice_index_or, arith}
use Rattle.std.proofs.lemmas.List.{get_or-map}
use Rattle.event_count.specs.Seats.{card_of}
use Rattle.waking_rows.specs.declared.row_point.RowWaiter.{RowWaiter}
use Rattle.waking_rows.specs.declared.waking_rows.WakingSeat.{WakingSeat}
use Rattle.waking_rows.specs.Points.{waiters_at}
use Rattle.waking_rows.specs.Seats.{number_by}
use Rattle.pool_part_tests.proofs.one_count.Pair.open.Goals as goal

-- the first seat of the rows has the number 0
pub invariant_of-result-clause-owner : goal.invariant_of-result-clause-owner
invariant_of-result-clause-owner g c =
    let told = c.in-Ok-try_from.ensures in
    let first : (s : WakingSeat ℕ) → s ≡ slice_index_or c.in-Ok-try_from.seats 0 s
    → number_by s ≡ 0 =
    λ s is. ap number_by is ∙ (ap (λ l. number_by (slice_index_or l 0 s)) told.0
    ∙ (sym (get_or-map number_by c.in-Ok.made.row_seats.items 0 s 0 (omega (arith, told.1)))
    ∙ ap (λ l. slice_index_or l 0 0) c.in-Ok.ensures.row_numbers)) in
    search (rules, first)

-- the first seat of the point has the number 0, and two seats may wait
pub invariant_of-result-clause-waits : goal.invariant_of-result-clause-waits
invariant_of-result-clause-waits g c =
    let number = λ (s : RowWaiter). (card_of s.seat).number in
    let told = c.in-Ok-try_from-2.ensures in
    let first : (s : RowWaiter) → s ≡ slice_index_or c.in-Ok-try_from-2.waiters 0 s
    → number s < waiters_at c.in-Ok.made.point =
    λ s is.
    (let zero = ap number is ∙ (ap (λ l. number (slice_index_or l 0 s)) told.0
    ∙ (sym (get_or-map number c.in-Ok.made.waiters.items 0 s 0 (omega (arith, told.1)))
    ∙ ap (λ l. slice_index_or l 0 0) c.in-Ok.ensures.numbers)) in
    omega (arith, zero, c.in-Ok.ensures.waiters)) in
    search (rules, first)
