use Rattle.std.proofs.Common.{◌≡◌, ◌+◌, ◌*◌, min, ap, sym, ◌∙◌, arith}
use Rattle.tensor_reduce.proofs.Sharding.{shard-starts, get_or-shards_by}
use Rattle.tensor_reduce.proofs.shards.Shards.range.Goals as goal

pub overflow_mul-first : goal.overflow_mul-first
overflow_mul-first c =
    let s = c.args.self.now in
    let starts = shard-starts s.inner s.width c.args.shard s.some c.requires in
    omega (arith, starts, c.fits-self.0.1)

pub overflow_sub-self : goal.overflow_sub-self
overflow_sub-self c =
    let s = c.args.self.now in
    shard-starts s.inner s.width c.args.shard s.some c.requires

pub overflow_add-last : goal.overflow_add-last
overflow_add-last c =
    let s = c.args.self.now in
    let starts = shard-starts s.inner s.width c.args.shard s.some c.requires in
    omega (arith, starts, c.min.ensures, c.fits-self.0.1)

pub returns : goal.returns
returns c =
    let s = c.args.self.now in
    let i = c.args.shard in
    let starts = shard-starts s.inner s.width i s.some c.requires in
    let next : (i + 1) * s.width ≡ i * s.width + s.width = grind arith in
    let last : i * s.width + c.min.result ≡ min ((i + 1) * s.width) s.inner =
    omega (arith, starts, next, c.min.ensures) in
    record {
      range = ap (λ l. (i * s.width, l)) last ∙ sym (get_or-shards_by s.inner s.width i c.requires);
      order = omega arith;
      within = omega (arith, last);
    }
