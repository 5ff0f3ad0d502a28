-- The places of the row so far have their values, and the others are as they were.
use Rattle.tensor_loops.specs.Putting.{PutsRow}
use Rattle.tensor_loops.proofs.gather.along.put_places.Given as goal

abbrev pub invariant-loop-k : goal.invariant-loop-k
invariant-loop-k l = PutsRow l.initial.values l.list l.row l.at l.k l.values
