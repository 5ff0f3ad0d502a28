-- The numbers so far, before those of the rest, are those of all pairs.
use Rattle.std.proofs.Common.{◌≡◌, ◌++◌, length}
use Rattle.prepared_expressions.specs.Recorded.{pair_numbers}
use Rattle.prepared_expressions.proofs.written.pair_numbers_of.Given as goal

abbrev pub invariant-loop-left : goal.invariant-loop-left
invariant-loop-left l = l.numbers.items ++ pair_numbers l.left ≡ pair_numbers l.pairs

abbrev pub decreases-loop-left : goal.decreases-loop-left
decreases-loop-left l = length l.left
