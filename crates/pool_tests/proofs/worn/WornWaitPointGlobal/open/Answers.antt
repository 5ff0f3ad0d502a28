-- The seats have the numbers of their cards.
use Rattle.std.proofs.Common.{◌+◌, ap, ◌∙◌}
use Rattle.std.specs.List.{range_with_len}
use Rattle.event_count.specs.Seats.{sizes_of}
use Rattle.event_count.proofs.Fresh.{map-number}
use Rattle.pool_tests.proofs.worn.WornWaitPointGlobal.open.Goals as goal

pub returns-clause-numbers : goal.returns-clause-numbers
returns-clause-numbers c =
    let sizes = sizes_of c.in_ok-count.count in
    map-number sizes c.in_ok-count.seats.items
    (range_with_len 0 (sizes.waiters + sizes.notifiers)) c.in_ok-count.ensures.cards
    ∙ ap (λ k. range_with_len 0 (k.waiters + k.notifiers)) c.in_ok-count.ensures.sizes
