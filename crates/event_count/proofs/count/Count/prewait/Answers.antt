use Rattle.std.proofs.Common.{rules}
use Rattle.event_count.proofs.Keeps.{prewait_keeps}
use Rattle.event_count.proofs.Cards.{is_kind}
use Rattle.event_count.proofs.count.Count.prewait.Goals as goal

pub fetch_add-requires : goal.fetch_add-requires
fetch_add-requires g c = (
  search rules,
  search rules,
  prewait_keeps _ _ _ _ c.args.seat.now.alone _ (is_kind g.K.Kind.rowed _ c.args.self.now.alone) c.requires.silent c.requires.waiter c.requires.running
      c.requires.owes_none,
)
