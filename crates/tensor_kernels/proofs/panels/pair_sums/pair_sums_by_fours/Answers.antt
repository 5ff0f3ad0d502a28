use Rattle.std.proofs.Common.{◌≡◌, ◌+◌, ◌*◌, ◌/◌, ◌<◌, pos, length, take, ap, sym, subst, ◌∙◌, arith}
use Rattle.std.proofs.Common.{length-take}
use Rattle.std.proofs.lemmas.List.{get_or-take}
use Rattle.tensor_shape.specs.Wrap.{wrap}
use Rattle.tensor_kernels.specs.private.Pairs.{own_pairs, lane, ArePairSums}
use Rattle.tensor_kernels.proofs.PanelPlaces.{row-place, pairs-row, place-of-four, four-inside}
use Rattle.tensor_kernels.proofs.PanelPlaces.{sums-of-four-more, fours-whole}
use Rattle.tensor_kernels.proofs.panels.pair_sums.pair_sums_by_fours.Goals as goal

pub overflow_mul-start-in-loop-four : goal.overflow_mul-start-in-loop-four
overflow_mul-start-in-loop-four c =
    let x = 4 * c.loop-four.four in
    let below : x < c.args.panels * c.args.height = omega (arith, c.loop-four-test.true) in
    let place = row-place c.args.height c.args.n x c.args.panels c.requires.some below in
    omega (arith, place.0)

pub overflow_add-start : goal.overflow_add-start
overflow_add-start c =
    let x = 4 * c.loop-four.four in
    let below : x < c.args.panels * c.args.height = omega (arith, c.loop-four-test.true) in
    let place = row-place c.args.height c.args.n x c.args.panels c.requires.some below in
    omega (arith, place.0, place.1, place.2)

pub own_of_four-own-requires-clause-inside : goal.own_of_four-own-requires-clause-inside
own_of_four-own-requires-clause-inside c q few =
    let inside = four-inside c.args.height c.args.n c.loop-four.four q c.args.panels c.requires.some
    c.requires.fours c.loop-four-test.true (omega arith) in
    omega (arith, inside)

pub loop-four-preserved : goal.loop-four-preserved
loop-four-preserved c =
    let h = c.args.height in
    let n = c.args.n in
    let f = c.loop-four.four in
    let own = c.own_of_four-own in
    let cells = c.args.cells.now in
    let four : length (take 4 own.result) ≡ 4 = omega (arith, length-take 4 own.result, own.ensures.len) in
    record {
      sums = subst (λ sums. ArePairSums h sums cells n) (sym c.in-Ok.ensures.items)
          (sums-of-four-more h n f cells c.loop-four.sums.items (take 4 own.result)
          (omega (arith, c.loop-four.invariant.len)) four
          c.loop-four.invariant.sums
          (λ t few.
          get_or-take 4 own.result t (pos 0) few
          ∙ own.ensures.each t few
          ∙ ap (λ start. wrap (own_pairs (lane h cells start) (n / 2)))
          (place-of-four h n f t c.requires.some c.requires.fours few)
          ∙ ap wrap (pairs-row h n (4 * f + t) (n / 2) cells)));
      len = omega (arith, c.in-Ok.ensures.len, c.loop-four.invariant.len, four);
      capacity = omega (arith, c.in-Ok.ensures.capacity, c.loop-four.invariant.capacity);
    }

pub returns-clause-len : goal.returns-clause-len
returns-clause-len c =
    let whole = fours-whole c.args.panels c.args.height c.requires.fours in
    omega (arith, whole, c.loop-four.invariant.len, c.loop-four.auto.four-end, c.loop-four-test.false)
