use Rattle.std.proofs.Common.{rules, sym, ◌∙◌}
use Rattle.event_count.proofs.Owing.{first_owed}
use Rattle.event_count.proofs.Unparking.{unpark_keeps_at}
use Rattle.event_count.proofs.count.Count.unpark.Goals as goal

pub store-requires : goal.store-requires
store-requires g c = (
  search rules,
  search rules,
  unpark_keeps_at _ _ _ _ c.args.seat.now.alone _ _ _
      (first_owed _ _ (sym c.requires.first ∙ c.args.seat.now.owes)) (search rules),
)
