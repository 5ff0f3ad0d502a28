use Rattle.std.proofs.Common.{◌≡◌, ◌%◌, ◌^◌, take}
use Rattle.std.specs.Prelude.{sum, sum_by}
use Rattle.uses.proofs.leaves.total.Given as goal

-- the sum of the lists so far
abbrev pub invariant-loop-list : goal.invariant-loop-list
invariant-loop-list l = l.sum ≡ sum_by (λ list. sum list.items) (take l.list-index l.lists) % 2 ^ 64
