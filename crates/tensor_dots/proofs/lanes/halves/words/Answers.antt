use Rattle.std.proofs.Common.{◌<◌, ◌^◌, refl, sym, subst}
use Rattle.tensor_dots.proofs.HalfProducts.{bits_below}
use Rattle.tensor_dots.proofs.HalfWords.{low-word, high-word, by-halves, half_below}
use Rattle.tensor_dots.proofs.lanes.halves.words.Goals as goal

pub returns-clause-low : goal.returns-clause-low
returns-clause-low c r h = low-word c.args.x r c.requires h

pub returns-clause-high : goal.returns-clause-high
returns-clause-high c r h = high-word c.args.x r c.requires h

pub returns-clause-words : goal.returns-clause-words
returns-clause-words c = (
  refl,
  by-halves _
      (λ r h. subst (λ n. n < 2 ^ 32) (sym (returns-clause-low c r h))
      (half_below _ (bits_below _ (c.requires.1 r h))).0)
      (λ r h. subst (λ n. n < 2 ^ 32) (sym (returns-clause-high c r h))
      (half_below _ (bits_below _ (c.requires.1 r h))).1),
)
