use Rattle.std.proofs.Common.{ℕ, List, [], ◌∷◌, ◌++◌, ◌≡◌, ◌-◌, ◌+◌, ◌/◌, ◌∙◌, ap, sym, arith, map}
use Rattle.std.specs.List.{range_with_len}
use Rattle.std.proofs.lemmas.List.FromFn.{map-range_with_len_more}
use Rattle.memory_tests.proofs.halves.HalvesKernel.fill.Goals as goal

-- what the kernel has at a place
abbrev half_of : ℕ → ℕ
half_of place = place / 2

pub loop-place-preserved : goal.loop-place-preserved
loop-place-preserved g c =
    let first = c.args.first in
    let place = c.loop-place.place in
    let next : place + 1 - first ≡ place - first + 1 = omega arith in
    record {
      items =
          c.push_reserved.ensures.items
          ∙ ap (λ (xs : List ℕ). xs ++ half_of place ∷ []) c.loop-place.invariant.items
          ∙ sym (map-range_with_len_more half_of first (place - first) place (omega arith))
          ∙ ap (λ (k : ℕ). map half_of (range_with_len first k)) (sym next);
      len = omega (arith, c.push_reserved.ensures.len, c.loop-place.invariant.len);
      room = omega (arith, c.push_reserved.ensures.capacity, c.loop-place.invariant.room);
    }
