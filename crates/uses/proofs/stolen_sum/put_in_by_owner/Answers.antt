use Rattle.std.proofs.Common.{◌≡◌, ℕ, ◌+◌, [], ◌∷◌, ap, ◌∙◌, arith}
use Rattle.std.specs.Prelude.{sum, sum_by}
use Rattle.std.proofs.lemmas.List.Sums.{sum_by-cons, sum_by-append}
use Rattle.run_queue.specs.declared.slot_rows.seat.SlotSeat.{SlotSeat}
use Rattle.run_queue.specs.SlotSeats.{puts_of}
use Rattle.uses.proofs.Sums.{sum_by-none}
use Rattle.uses.proofs.stolen_sum.put_in_by_owner.Goals as goal

-- nothing went in through the other seats, nor before through the owner's
pub returns-clause-puts : goal.returns-clause-puts
returns-clause-puts c =
    let put = λ (s : SlotSeat ℕ). sum (puts_of s) in
    let others = c.remove-owner.new.self.items in
    let owner = c.put_in-rest.new.owner in
    let none = sum_by-none put others (λ i d below.
    ap put (c.remove-owner.ensures.by_index.1 i d (omega arith))
    ∙ ap sum (c.requires.none (i + 1) d (omega (arith, below, c.remove-owner.ensures.len, c.args.seats.now.ok.0, c.remove-owner.new.self.ok.0))).0) in
    let first = ap put c.remove-owner.ensures.value
    ∙ ap sum (c.requires.none 0 c.remove-owner.result (omega (arith, c.requires.some))).0 in
    let all = ap (sum_by put) c.push_reserved.ensures.items ∙ sum_by-append put others (owner ∷ []) in
    let one = sum_by-cons put owner [] in
    let row = c.put_in-rest.ensures.puts in
    omega (arith, none, first, all, one, row)
