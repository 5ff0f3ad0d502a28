use Rattle.event_count.proofs.Keeps.{signal_keeps}
use Rattle.event_count.proofs.count.Count.signal.Goals as goal

pub exchange-requires-clause-allowed : goal.exchange-requires-clause-allowed
exchange-requires-clause-allowed g c =
    signal_keeps _ _ _ _ c.args.seat.now.alone _ _ c.requires.running c.requires.owes_none
    c.requires.room c.requires.offered
