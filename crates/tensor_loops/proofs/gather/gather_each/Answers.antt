use Rattle.std.proofs.Common.{◌+◌, ◌*◌, rules, arith}
use Rattle.std.proofs.lemmas.Int.{to_z-of_z}
use Rattle.std.specs.Int.{w64}
use mir.Val.{SFits}
use Rattle.tensor_values.specs.Values.{value_in}
use Rattle.tensor_views.specs.View.{steps_to}
use Rattle.tensor_values.proofs.Runs.{run-more}
use Rattle.tensor_loops.proofs.gather.gather_each.Goals as goal

pub loop-index-preserved : goal.loop-index-preserved
loop-index-preserved c =
    let fits : SFits w64 (value_in c.args.values.now (c.args.row + steps_to c.args.axis c.loop-index.index * c.args.axis.step)) = search rules in
    let pushed = rw c.steps_to.ensures at c.push_reserved.ensures.items in
    let more = simp to_z-of_z at pushed in
    record {
      items = run-more (λ i. value_in c.args.values.now (c.args.row + steps_to c.args.axis i * c.args.axis.step))
          c.args.from c.loop-index.index _ _ _ (omega arith) c.loop-index.invariant.items more;
      capacity = grind arith;
      len = grind arith;
    }
