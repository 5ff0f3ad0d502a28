-- The seat that put the job in is of the rows as it was before, and so are the others.
use Rattle.std.proofs.Common.{◌≡◌, ◌∙◌, ℕ, sym, ap, length, arith}
use Rattle.std.proofs.lemmas.List.{length-map, length-set}
use Rattle.std.proofs.lemmas.List.Elements.{AllWithin-from_all, AllWithin-set}
use Rattle.std.proofs.lemmas.List.FromFn.{length-range_with_len}
use Rattle.waking_rows.specs.declared.waking_rows.WakingSeat.{WakingSeat}
use Rattle.waking_rows.specs.Seats.{home_of, number_by, place_of}
use Rattle.memory_tests.proofs.calls.one_count.Goals as goal

pub close-left-requires-clause-ours : goal.close-left-requires-clause-ours
close-left-requires-clause-ours g c =
    let made = c.in_ok-made.made in
    let seats = made.row_seats.items in
    let ours = λ (seat : WakingSeat ℕ). home_of seat ≡ place_of made.rows in
    let long = sym (length-map seats number_by)
    ∙ (ap length c.in_ok-made.ensures.row_numbers ∙ length-range_with_len 0 3) in
    let same = c.push_back-put.ensures.same.home
    ∙ (ap home_of c.index_mut.ensures.value
    ∙ c.in_ok-made.ensures.rows_ours 2 _ (omega arith)) in
    let put = c.push_back-put.new.seat in
    λ k d less. AllWithin-set ours seats 0 (length seats) 2 put (omega arith) same
    (AllWithin-from_all ours seats c.in_ok-made.ensures.rows_ours) k d (omega arith)
    (omega (arith, length-set seats 2 put))
