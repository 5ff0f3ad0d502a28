-- The seats' numbers are those of their cards.
use Rattle.event_count.specs.Seats.{sizes_of}
use Rattle.event_count.proofs.Fresh.{numbers_from_zero}
use Rattle.event_count.proofs.wait_point.EventCountWaitPoint.open.Goals as goal

pub returns-clause-numbers : goal.returns-clause-numbers
returns-clause-numbers g c = numbers_from_zero c.new_at.result (λ made. made.1.items)
    (λ made. sizes_of made.0) c.args.waiters c.args.notifiers c.new_at.ensures.sizes
    c.new_at.ensures.cards
