use Rattle.std.proofs.Common.{◌≡◌, ℕ, pos, ◌+◌, ◌<◌, length, true, false, not, map, get_or, vec_len}
use Rattle.std.proofs.Common.{vec_capacity, ap, sym, ◌∙◌, rules, arith}
use Rattle.std.proofs.lemmas.Int.{to_z-of_z}
use Rattle.std.proofs.lemmas.List.{take_all}
use Rattle.std.specs.Int.{w64}
use mir.Val.{SFits}
use Rattle.tensor_values.specs.Interleaving.{is_of_first, firsts_before, seconds_before, interleaved}
use Rattle.tensor_values.proofs.InTurns.{interleaved-first, interleaved-second}
use Rattle.tensor_loops.proofs.InterleavedParts.{get_or-places, places-more, places-same, get_or-values, map-more}
use Rattle.tensor_loops.proofs.gather.interleaved.interleaved_list.Goals as goal
use Rattle.tensor_loops.proofs.gather.interleaved.interleaved_list.Goals.{then-is_of_first, else-is_of_first}

pub bounds-firsts-first : goal.bounds-firsts-first
bounds-firsts-first c =
    let t = c.args.turns in
    let first : is_of_first t.first t.second (get_or c.args.places.now c.loop-place.place-index 0) ≡ true =
    sym c.is_of_first.ensures ∙ c.if-is_of_first.true in
    let at = get_or-places (firsts_before t.first t.second) (is_of_first t.first t.second) c.args.places.now c.loop-place.place-index
    c.loop-place-test.true first in
    omega (arith, at.0, c.requires.firsts, c.loop-place.invariant.first)

pub bounds-seconds-second : goal.bounds-seconds-second
bounds-seconds-second c =
    let t = c.args.turns in
    let second : is_of_first t.first t.second (get_or c.args.places.now c.loop-place.place-index 0) ≡ false =
    sym c.is_of_first.ensures ∙ c.if-is_of_first.false in
    let at = get_or-places (seconds_before t.first t.second) (λ p. not (is_of_first t.first t.second p)) c.args.places.now
    c.loop-place.place-index c.loop-place-test.true (ap not second) in
    omega (arith, at.0, c.requires.seconds, c.loop-place.invariant.second)

pub offset_bounds-firsts-first : goal.offset_bounds-firsts-first
offset_bounds-firsts-first c =
    let t = c.args.turns in
    let first : is_of_first t.first t.second (get_or c.args.places.now c.loop-place.place-index 0) ≡ true =
    sym c.is_of_first.ensures ∙ c.if-is_of_first.true in
    let at = get_or-places (firsts_before t.first t.second) (is_of_first t.first t.second) c.args.places.now c.loop-place.place-index
    c.loop-place-test.true first in
    let within : c.loop-place.first < length c.args.firsts.now = omega (arith, at.0, c.requires.firsts, c.loop-place.invariant.first) in
    search rules

pub overflow_add-first : goal.overflow_add-first
overflow_add-first c =
    let t = c.args.turns in
    let first : is_of_first t.first t.second (get_or c.args.places.now c.loop-place.place-index 0) ≡ true =
    sym c.is_of_first.ensures ∙ c.if-is_of_first.true in
    let at = get_or-places (firsts_before t.first t.second) (is_of_first t.first t.second) c.args.places.now c.loop-place.place-index
    c.loop-place-test.true first in
    let within : c.loop-place.first < length c.args.firsts.now = omega (arith, at.0, c.requires.firsts, c.loop-place.invariant.first) in
    search rules

pub offset_bounds-seconds-second : goal.offset_bounds-seconds-second
offset_bounds-seconds-second c =
    let t = c.args.turns in
    let second : is_of_first t.first t.second (get_or c.args.places.now c.loop-place.place-index 0) ≡ false =
    sym c.is_of_first.ensures ∙ c.if-is_of_first.false in
    let at = get_or-places (seconds_before t.first t.second) (λ p. not (is_of_first t.first t.second p)) c.args.places.now
    c.loop-place.place-index c.loop-place-test.true (ap not second) in
    let within : c.loop-place.second < length c.args.seconds.now = omega (arith, at.0, c.requires.seconds, c.loop-place.invariant.second) in
    search rules

pub overflow_add-second : goal.overflow_add-second
overflow_add-second c =
    let t = c.args.turns in
    let second : is_of_first t.first t.second (get_or c.args.places.now c.loop-place.place-index 0) ≡ false =
    sym c.is_of_first.ensures ∙ c.if-is_of_first.false in
    let at = get_or-places (seconds_before t.first t.second) (λ p. not (is_of_first t.first t.second p)) c.args.places.now
    c.loop-place.place-index c.loop-place-test.true (ap not second) in
    let within : c.loop-place.second < length c.args.seconds.now = omega (arith, at.0, c.requires.seconds, c.loop-place.invariant.second) in
    search rules

pub push_reserved-requires : goal.push_reserved-requires
push_reserved-requires c =
    omega (arith, c.loop-place.invariant.len, c.loop-place.invariant.room, c.loop-place-test.true)

pub push_reserved-requires-else-is_of_first : goal.push_reserved-requires-else-is_of_first
push_reserved-requires-else-is_of_first c =
    omega (arith, c.loop-place.invariant.len, c.loop-place.invariant.room, c.loop-place-test.true)

pub loop-place-preserved : goal.loop-place-preserved
loop-place-preserved c =
    let t = c.args.turns in
    let inv = c.loop-place.invariant in
    let i : ℕ = c.loop-place.place-index in
    let ps = c.args.places.now in
    elim c.if-is_of_first.branch [
      | then-is_of_first w ↦
          let first : is_of_first t.first t.second (get_or ps i 0) ≡ true = sym c.is_of_first.ensures ∙ w.if-is_of_first.true in
          let fits : SFits w64 (get_or c.args.firsts.now c.loop-place.first (pos 0)) = search rules in
          let pushed = simp to_z-of_z at w.push_reserved.ensures.items in
          record {
            first = w.first-is ∙ ap (λ n. n + 1) inv.first
                ∙ sym (places-more (firsts_before t.first t.second) (is_of_first t.first t.second) ps i c.loop-place-test.true first);
            second = w.second-is ∙ inv.second
                ∙ sym (places-same (seconds_before t.first t.second) (λ p. not (is_of_first t.first t.second p)) ps i c.loop-place-test.true (ap not first));
            items = λ f g firsts seconds.
                map-more (interleaved t.first t.second f g) ps i (get_or c.args.firsts.now c.loop-place.first (pos 0)) c.loop-place.values.items
                c.if-is_of_first.values.items c.loop-place-test.true (inv.items f g firsts seconds)
                (ap (λ v. v.items) w.values-is ∙ pushed)
                (ap (λ n. get_or c.args.firsts.now n (pos 0)) inv.first
                ∙ get_or-values (firsts_before t.first t.second) (is_of_first t.first t.second) f ps c.args.firsts.now i firsts c.loop-place-test.true first
                ∙ interleaved-first t.first t.second f g (get_or ps i 0) first);
            len = ap vec_len w.values-is ∙ w.push_reserved.ensures.len ∙ ap (λ n. n + 1) inv.len;
            room = ap vec_capacity w.values-is ∙ w.push_reserved.ensures.capacity ∙ inv.room;
          }
      | else-is_of_first w ↦
          let second : is_of_first t.first t.second (get_or ps i 0) ≡ false = sym c.is_of_first.ensures ∙ w.if-is_of_first.false in
          let fits : SFits w64 (get_or c.args.seconds.now c.loop-place.second (pos 0)) = search rules in
          let pushed = simp to_z-of_z at w.push_reserved-else-is_of_first.ensures.items in
          record {
            first = w.first-is ∙ inv.first
                ∙ sym (places-same (firsts_before t.first t.second) (is_of_first t.first t.second) ps i c.loop-place-test.true second);
            second = w.second-is ∙ ap (λ n. n + 1) inv.second
                ∙ sym (places-more (seconds_before t.first t.second) (λ p. not (is_of_first t.first t.second p)) ps i c.loop-place-test.true (ap not second));
            items = λ f g firsts seconds.
                map-more (interleaved t.first t.second f g) ps i (get_or c.args.seconds.now c.loop-place.second (pos 0)) c.loop-place.values.items
                c.if-is_of_first.values.items c.loop-place-test.true (inv.items f g firsts seconds)
                (ap (λ v. v.items) w.values-is ∙ pushed)
                (ap (λ n. get_or c.args.seconds.now n (pos 0)) inv.second
                ∙ get_or-values (seconds_before t.first t.second) (λ p. not (is_of_first t.first t.second p)) g ps c.args.seconds.now i seconds
                c.loop-place-test.true (ap not second)
                ∙ interleaved-second t.first t.second f g (get_or ps i 0) second);
            len = ap vec_len w.values-is ∙ w.push_reserved-else-is_of_first.ensures.len ∙ ap (λ n. n + 1) inv.len;
            room = ap vec_capacity w.values-is ∙ w.push_reserved-else-is_of_first.ensures.capacity ∙ inv.room;
          }
    ]

pub returns : goal.returns
returns c = λ f g firsts seconds.
    c.loop-place.invariant.items f g firsts seconds
    ∙ ap (map (interleaved c.args.turns.first c.args.turns.second f g))
    (take_all c.loop-place.place-index c.args.places.now c.loop-place-test.false)
