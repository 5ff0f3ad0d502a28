use Rattle.std.proofs.Common.{◌≡◌, ◌-◌, length, map, IfOk, sym, subst, arith}
use Rattle.std.specs.List.{range_with_len}
use Rattle.tensor_ops.specs.PartEvaluator.{term_in_parts, inputs_in_parts}
use Rattle.tensor_ops.specs.Parts.{whole_value}
use Rattle.tensor_reduce.specs.private.Combined.{shard_at_place}
use Rattle.tensor_reduce.specs.Shards.{shards_in}
use Rattle.tensor_reduce.proofs.ShardedTensors.{value_shard-one}
use Rattle.tensor_reduce.proofs.Sharding.{map-ext}
use Rattle.tensor_reduce.proofs.running.shard_kernel.ShardKernelKernel.fill.Goals as goal

pub returns-then-count-eq1 : goal.returns-then-count-eq1
returns-then-count-eq1 g c =
    let s = c.args.self.now in
    let t = term_in_parts s.parts in
    let inputs = inputs_in_parts s.parts in
    let places = range_with_len c.args.first (c.args.last - c.args.first) in
    let one : length (shards_in s.shards) ≡ 1 =
    omega (arith, c.count.ensures.count, c.if-count-eq1.true) in
    let same : map (whole_value t inputs) places ≡ map (shard_at_place s) places =
    map-ext (whole_value t inputs) (shard_at_place s)
    (λ p. sym (value_shard-one t inputs s.shards.inner s.shards.width p s.shards.some one s.whole))
    places in
    subst (λ l. IfOk c.wholes.result (λ v. v.items ≡ l)) same c.wholes.ensures
