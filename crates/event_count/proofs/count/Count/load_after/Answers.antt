use Rattle.std.proofs.Common.{rules, sym, ◌∙◌}
use Rattle.event_count.proofs.Owing.{first_owed}
use Rattle.event_count.proofs.Unparking.{follow_keeps_at}
use Rattle.event_count.proofs.count.Count.load_after.Goals as goal

pub load-next-requires : goal.load-next-requires
load-next-requires g c = (
  search rules,
  search rules,
  follow_keeps_at _ _ _ _ c.args.seat.now.alone _ _ _
      (first_owed _ _ (sym c.requires.first ∙ c.args.seat.now.owes)) (search rules),
)
