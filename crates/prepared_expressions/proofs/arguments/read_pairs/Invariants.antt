-- The pairs so far, before those of the rest, are those of all numbers.
use Rattle.std.proofs.Common.{◌≡◌, length}
use Rattle.prepared_expressions.specs.private.Made.{pairs_in}
use Rattle.prepared_expressions.proofs.Lists.{after}
use Rattle.prepared_expressions.proofs.arguments.read_pairs.Given as goal

abbrev pub invariant-loop-left : goal.invariant-loop-left
invariant-loop-left l = after l.pairs.items (pairs_in l.left) ≡ pairs_in l.numbers

abbrev pub decreases-loop-left : goal.decreases-loop-left
decreases-loop-left l = length l.left
