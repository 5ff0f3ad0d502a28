use Rattle.std.proofs.Common.{◌≤◌, ◌+◌, drop, arith}
use Rattle.tensor_shape.specs.Legal.{bulk_of}
use Rattle.tensor_shape.proofs.Sizes.{one-le-bulk_of, bulk_of-drop, limit-below-mul}
use Rattle.tensor_shape.proofs.dims.holds_few.Goals as goal

pub returns-then-factor-limit : goal.returns-then-factor-limit
returns-then-factor-limit c =
    let step = bulk_of-drop c.args.sizes.now c.loop-size.size-index (omega arith) in
    let past = limit-below-mul c.args.limit c.loop-size.bulk c.max-factor.result
    (bulk_of (drop (c.loop-size.size-index + 1) c.args.sizes.now)) c.loop-size.invariant.1
    (one-le-bulk_of (drop (c.loop-size.size-index + 1) c.args.sizes.now)) c.if-factor-limit.true in
    let over : bulk_of c.args.sizes.now ≤ c.args.limit → ⊥ = λ within. grind (arith, step, past) in
    (λ h. (cc), λ within. absurd (over within))
