use Rattle.std.proofs.Common.{◌≡◌, ℕ, ◌/◌, ℤ, List, [], ◌∷◌, ◌++◌, length}
use Rattle.std.proofs.Common.{ap, sym, subst, ◌∙◌, arith, pos, below_more}
use Rattle.std.proofs.lemmas.List.{get_or_append_left, get_or_push, length_push}
use Rattle.tensor_shape.specs.Wrap.{wrap}
use Rattle.tensor_values.specs.Values.{value_in}
use Rattle.tensor_kernels.specs.private.Pairs.{own_pairs, ArePairSums}
use Rattle.tensor_kernels.specs.Panels.{cell_of}
use Rattle.tensor_dots.proofs.ListWrites.{stored}
use Rattle.tensor_kernels.proofs.PanelPlaces.{panel_place-inside, row-place, pairs-row}
use Rattle.tensor_kernels.proofs.panels.pair_sums.pair_sums.Goals as goal

-- the sum of a row more
sums-more : (h n x : ℕ) (cells sums : List ℤ) (s : ℤ) → length sums ≡ x
    → ArePairSums h sums cells n → s ≡ wrap (own_pairs (cell_of h cells n x) (n / 2))
    → ArePairSums h (sums ++ s ∷ []) cells n
sums-more h n x cells sums s long so_far here y below =
    below_more (λ y. value_in (sums ++ s ∷ []) y ≡ wrap (own_pairs (cell_of h cells n y) (n / 2))) x
    (λ y before. get_or_append_left sums (s ∷ []) (pos 0) y (omega arith)
    ∙ so_far y (omega arith))
    (get_or_push sums s (pos 0) x long ∙ here)
    y (omega (arith, length_push sums s))

pub overflow_mul-start : goal.overflow_mul-start
overflow_mul-start c =
    let place = row-place c.args.height c.args.n c.loop-x.x c.args.panels c.requires.some
    c.loop-x-test.true in
    omega (arith, place.1)

pub overflow_mul-start-in-loop-x : goal.overflow_mul-start-in-loop-x
overflow_mul-start-in-loop-x c =
    let place = row-place c.args.height c.args.n c.loop-x.x c.args.panels c.requires.some
    c.loop-x-test.true in
    omega (arith, place.0)

pub overflow_add-start : goal.overflow_add-start
overflow_add-start c =
    let place = row-place c.args.height c.args.n c.loop-x.x c.args.panels c.requires.some
    c.loop-x-test.true in
    omega (arith, place.0)

pub sum_of_pairs-requires-clause-inside : goal.sum_of_pairs-requires-clause-inside
sum_of_pairs-requires-clause-inside c q few =
    let inside = panel_place-inside c.args.height c.args.n c.loop-x.x q c.args.panels
    c.requires.some c.loop-x-test.true (omega arith) in
    omega (arith, inside)

pub loop-x-preserved : goal.loop-x-preserved
loop-x-preserved c =
    let h = c.args.height in
    let n = c.args.n in
    let x = c.loop-x.x in
    let s = c.sum_of_pairs.ensures ∙ ap wrap (pairs-row h n x (n / 2) c.args.cells.now) in
    record {
      sums = subst (λ sums. ArePairSums h sums c.args.cells.now n)
          (sym c.push_reserved.ensures.items)
          (sums-more h n x c.args.cells.now c.loop-x.sums.items _ (omega arith)
          c.loop-x.invariant.sums (stored c.sum_of_pairs.result _ s ∙ s));
      len = omega (arith, c.push_reserved.ensures.len, c.loop-x.invariant.len);
      capacity = c.push_reserved.ensures.capacity ∙ c.loop-x.invariant.capacity;
    }
