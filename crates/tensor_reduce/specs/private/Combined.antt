-- Values that are combined of what their shards contribute.
use Rattle.std.specs.Prelude.{ℕ, ℤ, ◌-◌, ◌*◌, ◌/◌, ◌%◌, List, length, take, drop}
use Rattle.std.specs.Prelude.{slice_index_or}
use Rattle.tensor_ops.specs.Contents.{Contents}
use Rattle.tensor_ops.specs.Index.{size_of}
use Rattle.tensor_ops.specs.Parts.{part_value}
use Rattle.tensor_ops.specs.PartEvaluator.{term_in_parts, inputs_in_parts}
use Rattle.tensor_ops.specs.Combining.{combination}
use Rattle.tensor_ops.specs.Result.{shape_of}
use Rattle.tensor_ops.specs.Term.{Term, input, unary, binary, ternary}
use Rattle.tensor_ops.specs.Term.{Unary, each, constant, movement, pad, reduce, along}
use Rattle.tensor_ops.specs.Reducer.{Reducer}
use Rattle.tensor_ops.specs.Reducer.TheVariants.{Sum}
use Rattle.tensor_reduce.specs.Shards.{Shard, shards_in}
use Rattle.tensor_reduce.specs.declared.running.shard_kernel.ShardKernel.{ShardKernel}

-- the reducer that combines the parts of an operation's values: a reduction's own, or else sums
abbrev pub reducer_in : Unary → Reducer
reducer_in (each o) = Sum
reducer_in (constant v) = Sum
reducer_in (movement m) = Sum
reducer_in (pad pairs) = Sum
reducer_in (reduce r axes) = r
reducer_in (along o axis) = Sum

-- the reducer that combines the parts of a term's values
abbrev pub reducer_of : Term → Reducer
reducer_of (input n) = Sum
reducer_of (unary o a) = reducer_in o
reducer_of (binary o a b) = Sum
reducer_of (ternary o a b c) = Sum

-- what a shard contributes to the value at place p
abbrev pub shard_value : Term → List Contents → ℕ → Shard → ℤ
shard_value t inputs p shard = part_value t inputs p shard.0 (shard.1 - shard.0)

-- what the shard at place p contributes, if all shards of a value stand one after the other
abbrev pub value_shard : Term → List Contents → List Shard → ℕ → ℤ
value_shard t inputs shards p =
    shard_value t inputs (p / length shards) (slice_index_or shards (p % length shards) (0, 0))

-- value p of values that are combined of count parts each
abbrev pub combined_by : Reducer → ℕ → List ℤ → ℕ → ℤ
combined_by r count parts p = combination r (take count (drop (p * count) parts))

-- the term of a kernel of shards
abbrev pub sharded_term : ShardKernel → Term
sharded_term kernel = term_in_parts kernel.parts

-- the tensors of a kernel of shards
abbrev pub sharded_inputs : ShardKernel → List Contents
sharded_inputs kernel = inputs_in_parts kernel.parts

-- the shards of each value of a kernel of shards
abbrev pub shards_of_kernel : ShardKernel → List Shard
shards_of_kernel kernel = shards_in kernel.shards

-- the number of shards of all values
abbrev pub shard_places : ShardKernel → ℕ
shard_places kernel =
    size_of (shape_of (sharded_term kernel) (sharded_inputs kernel))
    * length (shards_of_kernel kernel)

-- what the shard at a place contributes to its value
abbrev pub shard_at_place : ShardKernel → ℕ → ℤ
shard_at_place kernel =
    value_shard (sharded_term kernel) (sharded_inputs kernel) (shards_of_kernel kernel)
