use Rattle.std.proofs.Common.{rules}
use Rattle.event_count.proofs.Dealing.{deal_keeps}
use Rattle.event_count.proofs.opening.deal.Goals as goal

pub split_seat-requires : goal.split_seat-requires
split_seat-requires c =
    (search rules, search rules, deal_keeps _ _ _ c.requires.left)
