-- Each seat stays one of the count's.
use Rattle.std.proofs.Common.{◌≡◌, All, length}
use Rattle.event_count.specs.Seats.{IsSeatOf}
use Rattle.pool_part_tests.proofs.steps.take_each.Given as goal

abbrev pub invariant-loop-number : goal.invariant-loop-number
invariant-loop-number g l =
    All (IsSeatOf l.count) l.seats.items × (length l.seats.items ≡ length l.initial.seats.items)
