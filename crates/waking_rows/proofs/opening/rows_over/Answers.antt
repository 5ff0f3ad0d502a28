use Rattle.std.proofs.Common.{arith}
use Rattle.run_queue.specs.SlotSeats.{number_in}
use Rattle.waking_rows.proofs.Lists.{length-numbered}
use Rattle.waking_rows.proofs.opening.rows_over.Goals as goal

pub both-requires-clause-many : goal.both-requires-clause-many
both-requires-clause-many g c =
    let slots = length-numbered number_in _ _ c.in-Ok.ensures.numbers in
    omega (arith, slots, c.requires.many, c.args.seats.ok.0)

pub returns-clause-ours : goal.returns-clause-ours
returns-clause-ours g c = c.in_ok-list.ensures.ours _ _ c.in-Ok.ensures.ours c.requires.ours

pub returns-clause-credits : goal.returns-clause-credits
returns-clause-credits g c = c.in_ok-list.ensures.credits
