use Rattle.std.proofs.Common.{◌≡◌, ◌-◌, ◌*◌, ◌/◌, ◌<◌, ◌≤◌, length, get_or, drop, ap, sym, ◌∙◌, arith}
use Rattle.std.proofs.lemmas.Nat.{div_below}
use Rattle.std.proofs.Math.Nat.{mul-le-mul_right}
use Rattle.tensor_shape.specs.Index.{size_of}
use Rattle.tensor_shape.specs.Legal.{most_elements}
use Rattle.tensor_shape.proofs.Sizes.{size_of-le-bulk_of, bulk_of-drop-le}
use Rattle.tensor_views.proofs.Stepping.{stepped-drop-le, size_of-before, stepped-before}
use Rattle.tensor_values.proofs.Factors.{some_size}
use Rattle.tensor_views.proofs.offset_tables.stepped_places.Goals as goal

pub with_axis-requires-clause-few : goal.with_axis-requires-clause-few
with_axis-requires-clause-few c =
    let ds = c.args.sizes.now in
    let d = get_or ds (c.loop-k.k - 1) 0 in
    let whole = size_of-before c.args.steps.now ds c.loop-k.k (omega arith) (omega arith)
    c.requires.rank in
    let long : length c.loop-k.places.items * d ≡ size_of (drop c.loop-k.k ds) * d =
    ap (λ n. n * d) c.loop-k.invariant.len in
    rw c.deref.ensures.value
    (omega (
      arith,
      whole,
      long,
      size_of-le-bulk_of (drop (c.loop-k.k - 1) ds),
      bulk_of-drop-le ds (c.loop-k.k - 1),
      c.requires.legal.elements,
    ))

pub with_axis-requires-clause-small : goal.with_axis-requires-clause-small
with_axis-requires-clause-small c q i below within =
    let ds = c.args.sizes.now in
    let t = get_or c.args.steps.now (c.loop-k.k - 1) 0 in
    let inside : q < size_of (drop c.loop-k.k ds) =
    rw (c.deref.ensures.value, c.loop-k.invariant.len) at below in
    let before = stepped-drop-le c.args.steps.now ds c.loop-k.k q most_elements c.requires.rank
    inside c.requires.short in
    let first : i ≤ get_or ds (c.loop-k.k - 1) 0 = omega arith in
    let step : i * t ≤ get_or ds (c.loop-k.k - 1) 0 * t = mul-le-mul_right t first in
    let short = c.requires.short (c.loop-k.k - 1) (omega arith) in
    let rank : length ds * most_elements ≤ 8 * most_elements =
    mul-le-mul_right most_elements c.requires.legal.rank in
    rw c.deref.ensures.value
    (omega (arith, c.loop-k.invariant.each q inside, before, step, short, rank))

pub loop-k-preserved : goal.loop-k-preserved
loop-k-preserved c =
    let ds = c.args.sizes.now in
    let d = get_or ds (c.loop-k.k - 1) 0 in
    let rest = size_of (drop c.loop-k.k ds) in
    let whole = size_of-before c.args.steps.now ds c.loop-k.k (omega arith) (omega arith)
    c.requires.rank in
    let long : length c.deref.result.now ≡ rest =
    ap length c.deref.ensures.value ∙ c.loop-k.invariant.len in
    record {
      above = omega arith;
      len = c.in_ok-places-2.ensures.len ∙ ap (λ n. n * d) long ∙ sym whole;
      each = λ p below.
          let room : length c.deref.result.now * d ≡ rest * d = ap (λ n. n * d) long in
          let swapped : rest * d ≡ d * rest = grind arith in
          let row : p / d < rest =
          div_below p d rest (some_size d rest p (omega (arith, whole, swapped))) (omega (arith, whole)) in
          let here = c.in_ok-places-2.ensures.each p (omega (arith, whole, room)) in
          let before = ap (λ l. get_or l (p / d) 0) c.deref.ensures.value
          ∙ c.loop-k.invariant.each (p / d) row in
          let next = stepped-before c.args.steps.now ds c.loop-k.k (omega arith) (omega arith)
          c.requires.rank p in
          omega (arith, here, before, next);
    }

-- the loop ends at the first of the axes
pub returns-clause-len : goal.returns-clause-len
returns-clause-len c =
    let end : c.loop-k.k ≡ c.args.first = omega arith in
    c.loop-k.invariant.len ∙ ap (λ n. size_of (drop n c.args.sizes.now)) end

pub returns-clause-each : goal.returns-clause-each
returns-clause-each c =
    let end : c.loop-k.k ≡ c.args.first = omega arith in
    rw end at c.loop-k.invariant.each
