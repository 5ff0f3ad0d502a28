use Rattle.std.proofs.Common.{map, ap, arith}
use Rattle.std.specs.List.{range_with_len}
use Rattle.tensor_ops.specs.private.ValueRuns.{run_combined}
use Rattle.tensor_values.proofs.Runs.{chunk-more}
use Rattle.tensor_ops.proofs.part_evaluator.value_runs.ValueRuns.together.Goals as goal

pub loop-run-preserved : goal.loop-run-preserved
loop-run-preserved g c =
    let f = run_combined c.args.reducer c.args.self.now in
    let run = c.loop-run.run in
    record {
      above = omega arith;
      below = omega arith;
      items = chunk-more f c.args.first run c.min.result c.loop-run.values.items _
          c.add_runs.new.values.items c.loop-run.invariant.above c.loop-run.invariant.items
          (ap (λ n. map f (range_with_len run n)) (omega arith))
          c.in_ok-add_runs.ensures.items;
      room = omega (arith, c.in_ok-add_runs.ensures.len, c.in_ok-add_runs.ensures.capacity);
    }
