use Rattle.std.proofs.Common.{rules, ℕ, List, [], ◌∷◌, ◌++◌, ◌≡◌, ◌-◌, ◌+◌, ◌*◌, ◌∙◌, ap, sym, arith, map}
use Rattle.std.specs.Prelude.{slice_index}
use Rattle.std.specs.List.{range_with_len}
use Rattle.std.proofs.lemmas.List.FromFn.{map-range_with_len_more}
use Rattle.uses.proofs.squares.SquaresKernel.fill.Goals as goal

pub loop-place-preserved : goal.loop-place-preserved
loop-place-preserved g c =
    let first = c.args.first in
    let place = c.loop-place.place in
    let square_at = λ (p : ℕ). slice_index c.args.self.now.numbers.now p * slice_index c.args.self.now.numbers.now p in
    let square = c.from-number.result * c.from-number.result in
    let from : c.from-number.result ≡ slice_index c.args.self.now.numbers.now place = search rules in
    let next : place + 1 - first ≡ place - first + 1 = omega arith in
    record {
      items =
          c.push_reserved.ensures.items
          ∙ ap (λ (xs : List ℕ). xs ++ square ∷ []) c.loop-place.invariant.items
          ∙ ap (λ (n : ℕ). map square_at (range_with_len first (place - first)) ++ (n * n) ∷ []) from
          ∙ sym (map-range_with_len_more square_at first (place - first) place (omega arith))
          ∙ ap (λ (k : ℕ). map square_at (range_with_len first k)) (sym next);
      len = omega (arith, c.push_reserved.ensures.len, c.loop-place.invariant.len);
      room = omega (arith, c.push_reserved.ensures.capacity, c.loop-place.invariant.room);
    }
