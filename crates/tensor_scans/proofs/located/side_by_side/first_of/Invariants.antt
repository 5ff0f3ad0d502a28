-- The best of the chunks so far, and the last one that changed it.
use Rattle.std.proofs.Common.{◌≡◌, ◌-◌, ◌≤◌, length, take, false}
use Rattle.std.specs.List.{All}
use Rattle.std.specs.Ordering.{int_eq}
use Rattle.tensor_scans.specs.Lines.{reducer_of}
use Rattle.tensor_values.specs.Combining.{combination}
use Rattle.tensor_scans.proofs.located.side_by_side.first_of.Given as goal

abbrev pub invariant-loop-next : goal.invariant-loop-next
invariant-loop-next l = record {
  order : l.chunk ≤ l.next;
  within : l.next ≤ length l.values;
  best : l.best ≡ combination (reducer_of l.fn.operation) (take l.next l.values);
  none : All (λ x. int_eq x l.best ≡ false) (take l.chunk l.values);
}

abbrev pub decreases-loop-next : goal.decreases-loop-next
decreases-loop-next l = length l.values - l.next
