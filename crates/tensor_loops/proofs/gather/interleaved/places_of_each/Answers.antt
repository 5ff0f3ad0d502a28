use Rattle.std.proofs.Common.{◌≡◌, ◌+◌, ◌<◌, ℕ, List, [], ◌∷◌, ◌++◌, Bool, true, false, length, map}
use Rattle.std.proofs.Common.{take, get_or, not}
use Rattle.std.proofs.Common.{vec_capacity, append-nil, ap, sym, ◌∙◌, arith}
use Rattle.std.proofs.lemmas.List.{map-append}
use Rattle.std.proofs.lemmas.List.Elements.{filter_more}
use Rattle.std.specs.List.{filter}
use Rattle.tensor_values.specs.Interleaving.{is_of_first, firsts_before, seconds_before}
use Rattle.tensor_loops.proofs.InterleavedParts.{length-places-le}
use Rattle.tensor_loops.proofs.gather.interleaved.places_of_each.Goals as goal
use Rattle.tensor_loops.proofs.gather.interleaved.places_of_each.Goals.{then-is_of_first, else-is_of_first}

-- one place more, of an operand or not
module _ (m : ℕ → ℕ) (P : ℕ → Bool) (ps : List ℕ) (i : ℕ) (within : i < length ps) where
  place-pushed : (x : ℕ) (before after : List ℕ) → P (get_or ps i 0) ≡ true
      → before ≡ map m (filter P (take i ps)) → after ≡ before ++ x ∷ [] → x ≡ m (get_or ps i 0)
      → after ≡ map m (filter P (take (i + 1) ps))
  place-pushed x before after passes is pushed here =
      let more = rw passes at (filter_more P ps i 0 within) in
      pushed ∙ ap (λ l. l ++ x ∷ []) is ∙ ap (λ y. map m (filter P (take i ps)) ++ y ∷ []) here
      ∙ sym (ap (map m) more ∙ map-append m (filter P (take i ps)) (get_or ps i 0 ∷ []))

  place-kept : P (get_or ps i 0) ≡ false
      → map m (filter P (take i ps)) ≡ map m (filter P (take (i + 1) ps))
  place-kept fails =
      let same = rw fails at (filter_more P ps i 0 within) in
      sym (ap (map m) (same ∙ append-nil (filter P (take i ps))))

pub push_reserved-requires : goal.push_reserved-requires
push_reserved-requires c =
    let t = c.args.turns in
    let inv = c.loop-place.invariant in
    omega (
      arith,
      ap length inv.firsts,
      inv.first_room,
      c.loop-place-test.true,
      length-places-le (firsts_before t.first t.second) (is_of_first t.first t.second) c.args.places.now c.loop-place.place-index (omega arith),
    )

pub push_reserved-requires-else-is_of_first : goal.push_reserved-requires-else-is_of_first
push_reserved-requires-else-is_of_first c =
    let t = c.args.turns in
    let inv = c.loop-place.invariant in
    omega (
      arith,
      ap length inv.seconds,
      inv.second_room,
      c.loop-place-test.true,
      length-places-le (seconds_before t.first t.second) (λ p. not (is_of_first t.first t.second p)) c.args.places.now
          c.loop-place.place-index (omega arith),
    )

pub loop-place-preserved : goal.loop-place-preserved
loop-place-preserved c =
    let t = c.args.turns in
    let inv = c.loop-place.invariant in
    let i : ℕ = c.loop-place.place-index in
    let ps = c.args.places.now in
    elim c.if-is_of_first.branch [
      | then-is_of_first w ↦
          let first : is_of_first t.first t.second (get_or ps i 0) ≡ true =
          sym c.is_of_first.ensures ∙ w.if-is_of_first.true in
          record {
            firsts = ap (λ v. v.items) w.firsts-is
                ∙ place-pushed (firsts_before t.first t.second) (is_of_first t.first t.second) ps i
                c.loop-place-test.true _ _ _ first
                inv.firsts w.push_reserved.ensures.items w.firsts_before.ensures;
            seconds = ap (λ v. v.items) w.seconds-is ∙ inv.seconds
                ∙ place-kept (seconds_before t.first t.second)
                (λ p. not (is_of_first t.first t.second p)) ps i c.loop-place-test.true
                (ap not first);
            first_room = ap vec_capacity w.firsts-is ∙ w.push_reserved.ensures.capacity
                ∙ inv.first_room;
            second_room = ap vec_capacity w.seconds-is ∙ inv.second_room;
          }
      | else-is_of_first w ↦
          let second : is_of_first t.first t.second (get_or ps i 0) ≡ false =
          sym c.is_of_first.ensures ∙ w.if-is_of_first.false in
          record {
            firsts = ap (λ v. v.items) w.firsts-is ∙ inv.firsts
                ∙ place-kept (firsts_before t.first t.second) (is_of_first t.first t.second) ps i
                c.loop-place-test.true second;
            seconds = ap (λ v. v.items) w.seconds-is
                ∙ place-pushed (seconds_before t.first t.second)
                (λ p. not (is_of_first t.first t.second p)) ps i c.loop-place-test.true _ _ _
                (ap not second)
                inv.seconds w.push_reserved-else-is_of_first.ensures.items w.seconds_before.ensures;
            first_room = ap vec_capacity w.firsts-is ∙ inv.first_room;
            second_room = ap vec_capacity w.seconds-is
                ∙ w.push_reserved-else-is_of_first.ensures.capacity ∙ inv.second_room;
          }
    ]
