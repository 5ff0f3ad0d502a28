use Rattle.event_count.proofs.Keeps.{cancel_keeps}
use Rattle.event_count.proofs.count.Count.leave.Goals as goal

pub exchange-requires-clause-allowed : goal.exchange-requires-clause-allowed
exchange-requires-clause-allowed g c =
    cancel_keeps _ _ _ _ c.args.seat.now.alone _ _ c.requires.pre c.requires.offered
