use Rattle.event_count.proofs.Stacking.{pop_keeps}
use Rattle.event_count.proofs.count.Count.pop.Goals as goal

pub exchange-requires-clause-allowed : goal.exchange-requires-clause-allowed
exchange-requires-clause-allowed g c =
    pop_keeps _ _ _ _ c.args.seat.now.alone _ _ _ c.requires.running c.requires.owes_none
    c.requires.looked c.requires.read c.requires.there c.requires.full c.requires.offered
