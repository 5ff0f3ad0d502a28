use Rattle.std.proofs.Common.{◌≡◌, ℕ, ◌+◌, ◌++◌, ◌%◌, ◌^◌, ◌∙◌, length, map, ap, sym, subst, All, arith}
use Rattle.std.specs.Prelude.{sum, sum_by}
use Rattle.std.specs.List.{range_with_len, flat_map}
use Rattle.std.proofs.lemmas.List.{length-map}
use Rattle.std.proofs.lemmas.List.Elements.{All-map}
use Rattle.std.proofs.lemmas.List.FromFn.{length-range_with_len}
use Rattle.std.proofs.lemmas.List.Sums.{sum_by-append}
use Rattle.run_queue.specs.declared.slot_rows.seat.SlotSeat.{SlotSeat}
use Rattle.run_queue.specs.SlotSeats.{table_of, puts_of, takes_of, number_in, rows_id}
use Rattle.uses.proofs.Sums.{total-sum, sum-flat_map, sum_by-map, sum_by-same}
use Rattle.uses.proofs.stolen_sum.stolen_sum.Goals as goal

pub put_in_by_owner-rest-requires-clause-numbers :
    goal.put_in_by_owner-rest-requires-clause-numbers
put_in_by_owner-rest-requires-clause-numbers g c =
    let seats = c.in_ok-rows.seats.items in
    let told = c.in_ok-rows.ensures.numbers in
    let count = sym (length-map seats number_in) ∙ ap length told ∙ length-range_with_len 0 _ in
    told ∙ ap (range_with_len 0) (sym count)

pub close-left-requires-clause-ours : goal.close-left-requires-clause-ours
close-left-requires-clause-ours g c =
    let is_ours = λ (s : SlotSeat ℕ). table_of s ≡ rows_id c.in_ok-rows.rows in
    subst (All is_ours) (sym c.in_ok-seats_of.ensures)
    (All-map is_ours (λ t. t.seat) c.in_ok-taken.taken.items c.in_ok-taken.ensures.of)

pub close-left-requires-clause-all : goal.close-left-requires-clause-all
close-left-requires-clause-all g c =
    let seats = c.in_ok-rows.seats.items in
    let told = c.in_ok-rows.ensures.numbers in
    ap length c.in_ok-seats_of.ensures ∙ length-map c.in_ok-taken.taken.items (λ t. t.seat)
    ∙ c.in_ok-taken.ensures.count ∙ c.put_in_by_owner-rest.ensures.count
    ∙ sym (length-map seats number_in) ∙ ap length told ∙ length-range_with_len 0 _
    ∙ sym c.in_ok-rows.ensures.seats

-- what went in is what came out and what is left
pub returns : goal.returns
returns g c =
    let taken = c.in_ok-taken.taken.items in
    let seats = c.in_ok-seats_of.field-0.items in
    let left = c.close-left.result.items in
    let all = c.close-left.ensures.account (λ n. n) in
    let puts = total-sum (flat_map puts_of seats) ∙ sum-flat_map puts_of seats
    ∙ ap (sum_by (λ s. sum (puts_of s))) c.in_ok-seats_of.ensures
    ∙ sum_by-map (λ s. sum (puts_of s)) (λ t. t.seat) taken
    ∙ sum_by-same (λ t. sum (puts_of t.seat)) (λ s. sum (puts_of s)) taken c.put_in_by_owner-rest.new.seats.items
    c.in_ok-taken.ensures.count (λ i d e below. ap sum (c.in_ok-taken.ensures.puts i d e below)) in
    let takes = sum-flat_map takes_of seats
    ∙ ap (sum_by (λ s. sum (takes_of s))) c.in_ok-seats_of.ensures
    ∙ sum_by-map (λ s. sum (takes_of s)) (λ t. t.seat) taken in
    let both = total-sum (flat_map takes_of seats ++ left)
    ∙ sum_by-append (λ n. n) (flat_map takes_of seats) left in
    let out = c.total_of.ensures
    ∙ ap (λ ts. sum_by (λ t. sum (takes_of t.seat)) ts % 2 ^ 64) c.deref.ensures.value in
    let rest = c.added.ensures ∙ ap (λ ns. sum ns % 2 ^ 64) c.deref-2.ensures.value in
    let went = c.put_in_by_owner-rest.ensures.puts in
    omega (arith, all, puts, takes, both, out, rest, went)
