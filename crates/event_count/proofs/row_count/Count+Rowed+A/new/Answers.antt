-- Fresh seats announce nothing.
use Rattle.std.proofs.Common.{◌+◌}
use Rattle.std.specs.List.{range_with_len}
use Rattle.event_count.proofs.Fresh.{all_silent}
use Rattle.event_count.proofs.row_count.Count+Rowed+A.new.Goals as goal

pub returns-clause-silent : goal.returns-clause-silent
returns-clause-silent g c =
    all_silent c.args.sizes.now c.in_ok-made.made.1.items
    (range_with_len 0 (c.args.sizes.now.waiters + c.args.sizes.now.notifiers))
    c.in_ok-made.ensures.cards
