use Rattle.std.proofs.Common.{map, ap, arith}
use Rattle.std.specs.List.{range_with_len}
use Rattle.tensor_ops.specs.private.Meaning.{meaning}
use Rattle.tensor_values.proofs.Runs.{chunk-more}
use Rattle.tensor_ops.proofs.lowered.Lowered.values.Goals as goal

pub loop-from-preserved : goal.loop-from-preserved
loop-from-preserved g c = record {
  above = omega arith;
  below = omega arith;
  items =
      chunk-more (meaning c.args.self.now) c.args.first c.loop-from.from c.min.result c.loop-from.values.items _
      c.add_values.new.values.items c.loop-from.invariant.above c.loop-from.invariant.items
      (ap (λ n. map (meaning c.args.self.now) (range_with_len c.loop-from.from n)) (omega arith))
      c.in_ok-add_values.ensures;
}
