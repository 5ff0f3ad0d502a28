use Rattle.std.proofs.Common.{◌≡◌, ℕ, List, ◌+◌, get_or, set, refl, arith}
use Rattle.tensor_ops.specs.private.Lowering.{meaning_at}
use Rattle.std.proofs.lemmas.Result.{IfOk-weaker}
use Rattle.tensor_ops.proofs.Lowerings.{gives-other}
use Rattle.tensor_ops.proofs.Outcomes.{IfOk-both}
use Rattle.tensor_ops.proofs.Zeroes.{IsLegal-set-le, front-dims, back-dims, zeroes-around}
use Rattle.tensor_ops.proofs.lowering.interleaving.with_zeroes.Goals as goal

pub zeroes-front-requires-clause-legal : goal.zeroes-front-requires-clause-legal
zeroes-front-requires-clause-legal c =
    let ds : List ℕ = c.args.part.dims in
    let d : ℕ = get_or ds c.args.axis 0 in
    IsLegal-set-le c.args.axis c.args.pair.0 (c.args.pair.0 + d + c.args.pair.1) ds (omega arith) c.requires.legal

pub zeroes-back-requires-clause-legal : goal.zeroes-back-requires-clause-legal
zeroes-back-requires-clause-legal c =
    let ds : List ℕ = c.args.part.dims in
    let d : ℕ = get_or ds c.args.axis 0 in
    IsLegal-set-le c.args.axis c.args.pair.1 (c.args.pair.0 + d + c.args.pair.1) ds (omega arith) c.requires.legal

pub lower_concatenation-requires-clause-dims : goal.lower_concatenation-requires-clause-dims
lower_concatenation-requires-clause-dims c =
    rw (front-dims c.args.axis c.args.pair.0 c.args.pair.1 c.args.part.dims c.zeroes-front.result.dims c.zeroes-front.ensures.dims
    c.requires.axis c.requires.legal) refl

pub lower_concatenation-requires-2-clause-dims : goal.lower_concatenation-requires-2-clause-dims
lower_concatenation-requires-2-clause-dims c =
    let k : ℕ = c.args.axis in
    let ds : List ℕ = c.args.part.dims in
    let first = front-dims k c.args.pair.0 c.args.pair.1 ds c.zeroes-front.result.dims c.zeroes-front.ensures.dims c.requires.axis c.requires.legal in
    let part : c.in_ok-part.part.dims ≡ set ds k (c.args.pair.0 + get_or ds k 0) = (cc (first, c.in_ok-part.ensures.dims)) in
    rw (back-dims k c.args.pair.0 c.args.pair.1 ds c.in_ok-part.part.dims c.zeroes-back.result.dims part c.zeroes-back.ensures.dims
    c.requires.axis c.requires.legal) refl

pub returns-clause-dims : goal.returns-clause-dims
returns-clause-dims c =
    let k : ℕ = c.args.axis in
    let ds : List ℕ = c.args.part.dims in
    let first = front-dims k c.args.pair.0 c.args.pair.1 ds c.zeroes-front.result.dims c.zeroes-front.ensures.dims c.requires.axis c.requires.legal in
    let part : c.in_ok-part.part.dims ≡ set ds k (c.args.pair.0 + get_or ds k 0) = (cc (first, c.in_ok-part.ensures.dims)) in
    let second = back-dims k c.args.pair.0 c.args.pair.1 ds c.in_ok-part.part.dims c.zeroes-back.result.dims part c.zeroes-back.ensures.dims
    c.requires.axis c.requires.legal in
    IfOk-weaker c.lower_concatenation-2.result _ _ (λ r dims. (cc (second, dims))) c.lower_concatenation-2.ensures.dims

pub returns-clause-lowered : goal.returns-clause-lowered
returns-clause-lowered c =
    let k : ℕ = c.args.axis in
    let ds : List ℕ = c.args.part.dims in
    let one = c.in_ok-part.part in
    let first = front-dims k c.args.pair.0 c.args.pair.1 ds c.zeroes-front.result.dims c.zeroes-front.ensures.dims c.requires.axis c.requires.legal in
    let part : one.dims ≡ set ds k (c.args.pair.0 + get_or ds k 0) = (cc (first, c.in_ok-part.ensures.dims)) in
    let second = back-dims k c.args.pair.0 c.args.pair.1 ds one.dims c.zeroes-back.result.dims part c.zeroes-back.ensures.dims
    c.requires.axis c.requires.legal in
    IfOk-both c.lower_concatenation-2.result _ _ _
    (λ r dims gives.
    let whole : r.dims ≡ set ds k (c.args.pair.0 + get_or ds k 0 + c.args.pair.1) = (cc (second, dims)) in
    gives-other r.lowered r.dims _ _ gives
    (λ is index.
    zeroes-around k c.args.pair.0 c.args.pair.1 ds c.zeroes-front.result.dims one.dims c.zeroes-back.result.dims r.dims is
    c.zeroes-front.result.lowered one.lowered c.zeroes-back.result.lowered (meaning_at c.args.part.lowered ds) c.requires.axis
    c.zeroes-front.ensures.dims part whole c.zeroes-front.ensures.zero c.zeroes-back.ensures.zero c.in_ok-part.ensures.lowered index))
    c.lower_concatenation-2.ensures.dims c.lower_concatenation-2.ensures.lowered
