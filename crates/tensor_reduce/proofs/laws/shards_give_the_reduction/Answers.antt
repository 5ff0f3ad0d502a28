use Rattle.tensor_reduce.proofs.Sharding.{reduced-shards, width_of-enough}
use Rattle.tensor_reduce.proofs.laws.shards_give_the_reduction.Goals as goal

pub returns : goal.returns
returns c = λ r axes ds a is block.
    reduced-shards r axes ds a is _ (width_of-enough _ block)
