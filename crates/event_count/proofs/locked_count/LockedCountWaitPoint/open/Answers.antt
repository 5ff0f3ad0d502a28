-- There are as many seats as numbers.
use Rattle.std.proofs.Common.{◌+◌, ◌∙◌, length, ap, arith}
use Rattle.std.proofs.lemmas.List.{length-map}
use Rattle.std.proofs.lemmas.List.FromFn.{length-range_with_len}
use Rattle.event_count.specs.declared.locked_count.LockedSeat.{LockedSeat}
use Rattle.event_count.specs.declared.rule.Sizes.{Sizes}
use Rattle.event_count.proofs.locked_count.LockedCountWaitPoint.open.Goals as goal

pub returns-clause-all : goal.returns-clause-all
returns-clause-all g c =
    let seats = length-map c.in_ok-seats.seats.items (λ (seat : LockedSeat). seat.number) in
    let made = ap length c.in_ok-seats.ensures.numbers in
    let numbers = length-range_with_len 0 (c.from.result + c.from-2.result) in
    let waiters = c.from.ensures in let notifiers = c.from-2.ensures in
    let count = ap (λ (k : Sizes). k.waiters + k.notifiers)
    (c.beginning_with.ensures ∙ c.in_ok-world.ensures.sizes) in omega arith
