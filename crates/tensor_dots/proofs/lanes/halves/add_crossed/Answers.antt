use Rattle.std.proofs.Common.{◌≡◌, ◌+◌, ◌*◌, ◌%◌, ◌<◌, ◌^◌, ap, sym, subst, ◌∙◌}
use Rattle.tensor_values.specs.Values.{value_in}
use Rattle.tensor_dots.specs.Halves.{low_half, high_half, word_in}
use Rattle.tensor_dots.proofs.SimdLanes.{lanes-bits, value_in-lanes}
use Rattle.tensor_dots.proofs.HalfWords.{at-crossed-low, at-crossed-high, length-crossed, once}
use Rattle.tensor_dots.proofs.HalfWords.{remainder_below, by-halves}
use Rattle.tensor_dots.proofs.lanes.halves.add_crossed.Goals as goal

pub words-x-requires : goal.words-x-requires
words-x-requires c = lanes-bits c.args.x c.requires.x

pub words-y-requires : goal.words-y-requires
words-y-requires c = lanes-bits c.args.y c.requires.y

pub returns-clause-low : goal.returns-clause-low
returns-clause-low c r h =
    let left : word_in c.words-x.result (2 * r) ≡ low_half (value_in c.args.x r) =
    c.words-x.ensures.low r h ∙ ap low_half (value_in-lanes c.args.x c.requires.x r h) in
    let right : word_in c.words-y.result (2 * r + 1) ≡ high_half (value_in c.args.y r) =
    c.words-y.ensures.high r h ∙ ap high_half (value_in-lanes c.args.y c.requires.y r h) in
    at-crossed-low _ _ c.args.sums c.words-x.result c.words-y.result r c.requires.sums.0
    c.words-x.ensures.words.0 c.words-y.ensures.words.0 h
    ∙ once (word_in c.args.sums (2 * r)) (word_in c.words-x.result (2 * r) * word_in c.words-y.result (2 * r + 1))
    ∙ ap (λ n. (word_in c.args.sums (2 * r) + n * word_in c.words-y.result (2 * r + 1)) % 2 ^ 32) left
    ∙ ap (λ n. (word_in c.args.sums (2 * r) + low_half (value_in c.args.x r) * n) % 2 ^ 32) right

pub returns-clause-high : goal.returns-clause-high
returns-clause-high c r h =
    let left : word_in c.words-x.result (2 * r + 1) ≡ high_half (value_in c.args.x r) =
    c.words-x.ensures.high r h ∙ ap high_half (value_in-lanes c.args.x c.requires.x r h) in
    let right : word_in c.words-y.result (2 * r) ≡ low_half (value_in c.args.y r) =
    c.words-y.ensures.low r h ∙ ap low_half (value_in-lanes c.args.y c.requires.y r h) in
    at-crossed-high _ _ c.args.sums c.words-x.result c.words-y.result r c.requires.sums.0
    c.words-x.ensures.words.0 c.words-y.ensures.words.0 h
    ∙ once (word_in c.args.sums (2 * r + 1)) (word_in c.words-x.result (2 * r + 1) * word_in c.words-y.result (2 * r))
    ∙ ap (λ n. (word_in c.args.sums (2 * r + 1) + n * word_in c.words-y.result (2 * r)) % 2 ^ 32) left
    ∙ ap (λ n. (word_in c.args.sums (2 * r + 1) + high_half (value_in c.args.x r) * n) % 2 ^ 32) right

pub returns-clause-words : goal.returns-clause-words
returns-clause-words c = (
  length-crossed _ _ c.args.sums c.words-x.result c.words-y.result c.requires.sums.0 c.words-x.ensures.words.0,
  by-halves _
      (λ r h. subst (λ n. n < 2 ^ 32) (sym (returns-clause-low c r h)) (remainder_below _))
      (λ r h. subst (λ n. n < 2 ^ 32) (sym (returns-clause-high c r h)) (remainder_below _)),
)
