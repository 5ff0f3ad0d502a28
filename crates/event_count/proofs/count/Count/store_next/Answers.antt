use Rattle.std.proofs.Common.{rules, ap, sym, ◌∙◌}
use Rattle.event_count.specs.Places.{next_place}
use Rattle.event_count.proofs.Stacking.{store_keeps_at}
use Rattle.event_count.proofs.count.Count.store_next.Goals as goal

pub store-requires : goal.store-requires
store-requires g c = (
  search rules,
  search rules,
  store_keeps_at _ _ _ _ c.args.seat.now.alone _ _ c.requires.pre c.requires.waiter
      (c.next_word_of-place.ensures ∙ sym (ap next_place c.args.seat.now.numbered)),
)
