use Rattle.std.proofs.Common.{◌≡◌, ℕ, ◌<◌, List, suc, take, ap, subst, ◌∙◌, arith, add-one}
use Rattle.tensor_shape.specs.Index.{size_of}
use Rattle.tensor_terms.specs.Concatenation.{joined_dims}
use Rattle.tensor_terms.proofs.Interleavings.{concatenation-known, widths-some, size_of-joined, size_of-take-le}
use Rattle.tensor_terms.proofs.index.interleaved_index.turns_along.Goals as goal

pub width_along-requires : goal.width_along-requires
width_along-requires c =
    (concatenation-known c.args.axis c.args.first.now c.args.second.now c.requires.dims).in_rank

pub width_along-requires-2 : goal.width_along-requires-2
width_along-requires-2 c =
    let known = concatenation-known c.args.axis c.args.first.now c.args.second.now c.requires.dims
    in
    subst (λ n. c.args.axis < n) known.same known.in_rank

pub invariant_of-result : goal.invariant_of-result
invariant_of-result c =
    let k : ℕ = c.args.axis in
    let ds : List ℕ = c.args.first.now in
    let es : List ℕ = c.args.second.now in
    let known = concatenation-known k ds es c.requires.dims in
    let first : c.width_along.result ≡ size_of (take (suc k) ds) = c.width_along.ensures ∙ ap (λ n. size_of (take n ds)) (add-one k) in
    let second : c.width_along-2.result ≡ size_of (take (suc k) es) = c.width_along-2.ensures ∙ ap (λ n. size_of (take n es)) (add-one k) in
    record {
      some = omega (arith, first, second, widths-some k ds es 0 known.same known.in_rank known.others c.requires.some);
      few = omega (
        arith,
        first,
        second,
        size_of-joined k ds es known.same known.in_rank known.others,
        size_of-take-le (suc k) (joined_dims k ds es) known.legal,
      );
    }
