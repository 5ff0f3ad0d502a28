use Rattle.tensor_reduce.proofs.Sharding.{lists_of-shards_of}
use Rattle.tensor_reduce.proofs.laws.shards_meet_each_index_list_once.Goals as goal

pub returns : goal.returns
returns c = lists_of-shards_of
