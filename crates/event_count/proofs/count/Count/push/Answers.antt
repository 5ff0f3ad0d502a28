use Rattle.event_count.proofs.Stacking.{push_keeps}
use Rattle.event_count.proofs.Cards.{is_kind}
use Rattle.event_count.proofs.count.Count.push.Goals as goal

pub exchange-requires-clause-allowed : goal.exchange-requires-clause-allowed
exchange-requires-clause-allowed g c =
    push_keeps _ _ _ _ c.args.seat.now.alone _ _ _ (is_kind g.K.Kind.rowed _ c.args.self.now.alone) c.requires.passed c.requires.pre c.requires.none_given
    c.requires.offered c.requires.stored
