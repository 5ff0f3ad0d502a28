use Rattle.std.proofs.Common.{arith}
use Rattle.tensor_reduce.proofs.Sharding.{length-shards_by, div_up-few}
use Rattle.tensor_reduce.proofs.shards.Shards.count.Goals as goal

pub returns : goal.returns
returns c =
    let s = c.args.self.now in
    let count = length-shards_by s.inner s.width in
    let few = div_up-few s.inner s.width s.some s.few in
    record {
      count = omega (arith, c.max.ensures, c.div_ceil.ensures, count);
      few = omega (arith, c.max.ensures, c.div_ceil.ensures, few);
    }
