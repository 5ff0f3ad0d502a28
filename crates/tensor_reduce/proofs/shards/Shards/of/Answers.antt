use Rattle.std.proofs.Common.{◌≡◌, refl, ap, ◌∙◌, max, arith}
use Rattle.tensor_reduce.specs.Shards.{width_of, shards_by}
use Rattle.tensor_reduce.proofs.Sharding.{width_of-enough, shards_by-some}
use Rattle.tensor_reduce.proofs.shards.Shards.of.Goals as goal

pub invariant_of-result : goal.invariant_of-result
invariant_of-result c =
    let width : c.max-width.result ≡ width_of c.args.inner c.args.block =
    omega (arith, c.max-width.ensures, c.div_ceil.ensures) in
    let enough = width_of-enough c.args.inner c.args.block in
    record {
      some = omega (arith, c.max.ensures);
      few = omega (arith, width, enough, c.max.ensures);
    }

pub returns : goal.returns
returns c =
    let width : c.max.result ≡ max (width_of c.args.inner c.args.block) 1 =
    omega (arith, c.max.ensures, c.max-width.ensures, c.div_ceil.ensures) in
    record {
      shards = ap (shards_by c.args.inner) width ∙ shards_by-some c.args.inner c.args.block;
      lists = refl;
    }
