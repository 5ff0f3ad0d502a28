use Rattle.std.proofs.Common.{◌≡◌, ◌*◌, ◌/◌, ◌≤◌, min, ℕ, subst, arith}
use Rattle.std.proofs.Math.Nat.{div-le_self}
use Rattle.tensor_reduce.specs.Shards.{most_shards}
use Rattle.tensor_reduce.specs.private.Worth.{IsLoadOf}
use Rattle.tensor_reduce.proofs.schedule.grain.Grain.for_shards.Goals as goal

pub returns-clause-workers : goal.returns-clause-workers
returns-clause-workers c =
    let blocks : ℕ = c.args.places / c.args.self.block in
    let below : blocks ≤ c.args.places = div-le_self c.args.places c.args.self.block in
    let leaves : c.min.result ≡ min (c.args.values * most_shards) blocks =
    omega (arith, c.min.ensures, c.saturating_mul-most.ensures, below, c.ranges.places.fits) in (
      c.new.result,
      (
        subst (λ n. IsLoadOf c.args.values c.args.cost n c.new.result) leaves c.new.ensures,
        c.for_load.ensures.workers,
      ),
    )
