use Rattle.tensor_reduce.proofs.Sharding.{contracted-shards, width_of-enough}
use Rattle.tensor_reduce.proofs.laws.shards_give_the_contraction.Goals as goal

pub returns : goal.returns
returns c = λ pairs ds es a b is block.
    contracted-shards pairs ds es a b is _ (width_of-enough _ block)
