use Rattle.std.proofs.Common.{rules, ap, sym, ◌∙◌}
use Rattle.event_count.specs.Places.{parker_place}
use Rattle.event_count.proofs.Unparking.{wake_keeps_at}
use Rattle.event_count.proofs.count.Count.try_take_token.Goals as goal

pub swap-found-requires : goal.swap-found-requires
swap-found-requires g c = (
  search rules,
  search rules,
  wake_keeps_at _ _ _ _ c.args.seat.now.alone _ c.requires.stacked
      (c.parker_word_of-place.ensures ∙ sym (ap parker_place c.args.seat.now.numbered)),
)
