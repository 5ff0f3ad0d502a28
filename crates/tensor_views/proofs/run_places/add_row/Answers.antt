use Rattle.std.proofs.Common.{◌+◌, ◌*◌, arith}
use Rattle.tensor_views.specs.View.{steps_to}
use Rattle.tensor_values.proofs.Runs.{run-more}
use Rattle.tensor_views.proofs.run_places.add_row.Goals as goal

pub loop-index-preserved : goal.loop-index-preserved
loop-index-preserved c = record {
  items = run-more (λ i. c.args.row + steps_to c.args.axis i * c.args.axis.step) c.args.from c.loop-index.index _ _ _ (omega arith) c.loop-index.invariant.items (rw c.steps_to.ensures at c.push_reserved.ensures.items);
  capacity = grind arith;
  len = grind arith;
}
