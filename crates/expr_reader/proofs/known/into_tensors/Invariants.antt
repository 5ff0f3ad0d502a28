-- The tensors so far, before those of the rest, are all tensors.
use Rattle.std.proofs.Common.{◌≡◌, ◌++◌}
use Rattle.std.specs.Vec.Iter.{into_iter_items}
use Rattle.expr_reader.proofs.known.into_tensors.Given as goal

abbrev pub invariant-loop-one : goal.invariant-loop-one
invariant-loop-one l = record {
  can : (goal.iterator-loop-one).can_next l.one-iterator;
  finite : (goal.iterator-loop-one).is_finite l.one-iterator;
  all : l.tensors.items ++ into_iter_items l.one-iterator ≡ l.fn.known.items;
}
