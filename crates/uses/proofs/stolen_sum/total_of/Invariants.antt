use Rattle.std.proofs.Common.{◌≡◌, ◌%◌, ◌^◌, take}
use Rattle.std.specs.Prelude.{sum, sum_by}
use Rattle.run_queue.specs.SlotSeats.{takes_of}
use Rattle.uses.proofs.stolen_sum.total_of.Given as goal

-- the sum of what came out through the seats so far
abbrev pub invariant-loop-one : goal.invariant-loop-one
invariant-loop-one l =
    l.total ≡ sum_by (λ t. sum (takes_of t.seat)) (take l.one-index l.taken) % 2 ^ 64
