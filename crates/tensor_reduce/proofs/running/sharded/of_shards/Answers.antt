use Rattle.std.proofs.Common.{◌*◌, ◌++◌, length, ap, sym, ◌∙◌}
use Rattle.std.proofs.lemmas.List.FromFn.{length-map-range_with_len}
use Rattle.tensor_ops.specs.Index.{size_of}
use Rattle.tensor_ops.specs.PartEvaluator.{term_in_parts, inputs_in_parts}
use Rattle.tensor_ops.specs.Tree.{term_of}
use Rattle.tensor_reduce.specs.private.Combined.{value_shard, combined_by}
use Rattle.tensor_reduce.specs.Shards.{shards_in}
use Rattle.tensor_reduce.proofs.ShardedTensors.{tensor_of-cut}
use Rattle.tensor_reduce.proofs.running.sharded.of_shards.Goals as goal

pub combined_values-requires : goal.combined_values-requires
combined_values-requires g c =
    let parts = c.in_ok-parts.parts in
    ap length (c.deref.ensures.value ∙ c.in_ok-found.ensures.items)
    ∙ length-map-range_with_len
    (value_shard (term_in_parts parts) (inputs_in_parts parts) (shards_in c.of-shards.result)) 0
    (c.size-values.result * c.count-count.result)

pub new-requires : goal.new-requires
new-requires g c =
    ap length c.in_ok-combined.ensures
    ∙ length-map-range_with_len
    (combined_by c.reducer_of.result c.count-count.result c.deref.result.now) 0 c.size-values.result
    ∙ c.size-values.ensures.value ∙ ap size_of (sym c.copied.ensures)

pub returns-clause-tensor : goal.returns-clause-tensor
returns-clause-tensor g c =
    let parts = c.in_ok-parts.parts in
    tensor_of-cut (term_of c.args.expr.now) (term_in_parts parts)
    (c.args.inputs.now.tensors ++ c.args.earlier.now) (inputs_in_parts parts)
    c.in_ok-parts.ensures.term c.in_ok-parts.ensures.inputs c.args.dims.now c.requires.dims
    c.inner-inner.result c.args.sharding.width c.size-values.result c.count-count.result
    (shards_in c.of-shards.result) c.deref.result.now c.reducer_of.result c.new.result
    c.requires.parts c.inner-inner.ensures c.of-shards.ensures.shards
    c.size-values.ensures.value c.count-count.ensures.count
    (c.deref.ensures.value ∙ c.in_ok-found.ensures.items) c.reducer_of.ensures
    (c.new.ensures.dims ∙ c.copied.ensures) (c.new.ensures.values ∙ c.in_ok-combined.ensures)
