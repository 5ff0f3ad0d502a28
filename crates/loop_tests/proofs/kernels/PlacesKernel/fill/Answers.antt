use Rattle.std.proofs.Common.{ℕ, List, [], ◌∷◌, ◌++◌, ◌≡◌, ◌-◌, ◌+◌, ◌∙◌, ap, sym, arith, map}
use Rattle.std.specs.List.{range_with_len}
use Rattle.std.proofs.lemmas.List.FromFn.{map-range_with_len_more}
use Rattle.loop_tests.proofs.kernels.PlacesKernel.fill.Goals as goal

pub loop-place-preserved : goal.loop-place-preserved
loop-place-preserved g c =
    let first = c.args.first in
    let place = c.loop-place.place in
    let next : place + 1 - first ≡ place - first + 1 = omega arith in
    record {
      items =
          c.push_reserved.ensures.items
          ∙ ap (λ (xs : List ℕ). xs ++ place ∷ []) c.loop-place.invariant.items
          ∙ sym (map-range_with_len_more (λ (p : ℕ). p) first (place - first) place (omega arith))
          ∙ ap (λ (k : ℕ). map (λ (p : ℕ). p) (range_with_len first k)) (sym next);
      len = omega (arith, c.push_reserved.ensures.len, c.loop-place.invariant.len);
      room = omega (arith, c.push_reserved.ensures.capacity, c.loop-place.invariant.room);
    }
