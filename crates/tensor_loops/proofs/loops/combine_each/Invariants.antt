-- The places of the row so far have their values, and the others are as they were.
use Rattle.tensor_loops.specs.Loops.{CombinesRow}
use Rattle.tensor_loops.proofs.loops.combine_each.Given as goal

abbrev pub invariant-loop-k : goal.invariant-loop-k
invariant-loop-k l = CombinesRow l.link.operation l.link.swapped l.initial.values l.list l.row l.at l.k l.values
