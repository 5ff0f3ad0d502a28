use Rattle.std.proofs.Common.{◌≡◌, ◌<◌, ℕ, ℤ, pos, ◌+◌, ◌-◌, [], ◌∷◌, get_or, length, map, IfOk, refl, ap, sym, subst, ◌∙◌, rules, arith}
use Rattle.std.specs.List.{range_with_len}
use Rattle.std.proofs.lemmas.List.FromFn.{length-range_with_len, get_or-range_with_len, length-map-range_with_len}
use Rattle.std.proofs.lemmas.List.{length-map, get_or-map}
use Rattle.std.proofs.lemmas.Result.{on_ok_weaker}
use Rattle.std.proofs.lemmas.Int.{to_z-of_z}
use Rattle.std.specs.Int.{w64}
use mir.Val.{SFits, to_z, of_z}
use Rattle.std.specs.Cow.{cow_slice_items}
use Rattle.std.specs.Prelude.{replicate}
use Rattle.tensor_loops.specs.Chain.{chained}
use Rattle.tensor_loops.specs.Loops.{either_way, selected}
use Rattle.tensor_ops.specs.private.Meaning.{meaning, count_of, depth_of}
use Rattle.tensor_views.specs.Places.{places_of}
use Rattle.tensor_values.specs.Scalars.{applied}
use Rattle.tensor_values.specs.Interleaving.{firsts_before, seconds_before, interleaved}
use Rattle.tensor_views.specs.View.{reached, view_size, place_in}
use Rattle.tensor_values.proofs.InTurns.{firsts-run, seconds-run, first_places-below, second_places-below, map-first_alone, map-second_alone}
use Rattle.tensor_values.proofs.Runs.{places-applied, places-paired, places-selected, places-moved, map-constant}
use Rattle.tensor_views.proofs.Soundness.{reached-within}
use Rattle.tensor_ops.proofs.Filled.{all-written, other-read}
use Rattle.tensor_ops.proofs.lowered.+values_at.Goals as goal

-- combined with what is read along a view, or with values
pub combine_at-combine_row-requires-clause-room : goal.combine_at-combine_row-requires-clause-room
combine_at-combine_row-requires-clause-room t c =
    omega (arith, c.repeated.ensures.count, c.len.ensures, c.requires.same)

pub combine_at-combine_along-requires-clause-within : goal.combine_at-combine_along-requires-clause-within
combine_at-combine_along-requires-clause-within t c =
    let below = rw c.in-Run.is at c.requires.places in
    omega (arith, below.1, c.in-Some.ensures.count)

pub combine_at-combine_along-requires-clause-inside : goal.combine_at-combine_along-requires-clause-inside
combine_at-combine_along-requires-clause-inside t c = c.in-Some.ensures.inside

pub combine_at-combine-requires : goal.combine_at-combine-requires
combine_at-combine-requires t c =
    c.requires.same
    ∙ sym (ap length (c.as_slice.ensures.value ∙ c.in_ok-others.ensures)
    ∙ length-map (places_of c.args.places.now) (meaning c.args.operand.now))

pub combine_at-returns : goal.combine_at-returns
combine_at-returns t c =
    let o = either_way c.args.link.operation c.args.link.swapped in
    let places = places_of c.args.places.now in
    let others = c.as_slice.ensures.value ∙ c.in_ok-others.ensures in
    let long = ap length others ∙ length-map places (meaning c.args.operand.now) in
    record {
      len = c.combine.ensures.len ∙ long;
      each = λ k below.
          c.combine.ensures.each k (rw long below)
          ∙ ap (o (get_or c.args.values.now k (pos 0)))
          (ap (λ l. get_or l k (pos 0)) others
          ∙ get_or-map (meaning c.args.operand.now) places k 0 (pos 0) below);
    }

pub values_at-places-requires-clause-fits : goal.values_at-places-requires-clause-fits
values_at-places-requires-clause-fits t c =
    let sound = rw c.in-View.is at c.requires.sound in
    rw (c.as_ref-view.ensures.start, c.as_ref-view.ensures.axes) (λ p below. omega (arith, sound.1.0, sound.1.1 p below))

pub values_at-values_at-requires : goal.values_at-values_at-requires
values_at-values_at-requires t c = (
  omega (arith, c.decreases, ap depth_of c.in-Unary.is, ap depth_of c.deref.ensures),
  (
    rw (c.deref.ensures) (rw c.in-Unary.is at c.requires.sound),
    rw (c.deref.ensures) (rw c.in-Unary.is at c.requires.places),
  ),
)

pub values_at-values_at-requires-in-Binary : goal.values_at-values_at-requires-in-Binary
values_at-values_at-requires-in-Binary t c =
    let sound = rw c.in-Binary.is at c.requires.sound in (
      omega (arith, c.decreases, ap depth_of c.in-Binary.is, ap depth_of c.deref-in-Binary-3.ensures),
      (
        rw (c.deref-in-Binary-3.ensures) sound.0,
        rw (c.deref-in-Binary-3.ensures) (rw c.in-Binary.is at c.requires.places),
      ),
    )

pub values_at-combine_at-requires : goal.values_at-combine_at-requires
values_at-combine_at-requires t c =
    let sound = rw c.in-Binary.is at c.requires.sound in (
      omega (arith, c.decreases, ap depth_of c.in-Binary.is, ap depth_of c.deref-in-Binary-4.ensures),
      (
        rw (c.deref-in-Binary-4.ensures) sound.1.0,
        (
          rw (c.deref-in-Binary-4.ensures, sound.1.1) (rw c.in-Binary.is at c.requires.places),
          omega (
            arith,
            ap length (c.in_ok-values-in-Binary-2.ensures ∙ c.in_ok-values_at-in-Binary.ensures),
            length-map (places_of c.args.places.now) (meaning c.deref-in-Binary-3.result.now),
          ),
        ),
      ),
    )

pub combine_at-values_at-requires : goal.combine_at-values_at-requires
combine_at-values_at-requires t c = (omega (arith, c.decreases), (c.requires.sound, c.requires.places))

pub combine_at-combine_along-requires-clause-same : goal.combine_at-combine_along-requires-clause-same
combine_at-combine_along-requires-clause-same t c =
    (rw c.in-Run.is at c.requires.same) ∙ length-range_with_len c.in-Run.first (c.in-Run.last - c.in-Run.first)

pub combine_at-returns-then-has_long_rows-clause-each : goal.combine_at-returns-then-has_long_rows-clause-each
combine_at-returns-then-has_long_rows-clause-each t c =
    let first = c.in-Run.first in
    let count = c.in-Run.last - c.in-Run.first in
    let o = either_way c.args.link.operation c.args.link.swapped in
    on_ok_weaker c.combine_along.result
    (λ each k below.
    let long : length (places_of c.args.places.now) ≡ count = ap (λ ps. length (places_of ps)) c.in-Run.is ∙ length-range_with_len first count in
    let inside : k < count = omega (arith, below, long) in
    let place : get_or (places_of c.args.places.now) k 0 ≡ first + k =
    ap (λ ps. get_or (places_of ps) k 0) c.in-Run.is ∙ get_or-range_with_len first count k 0 inside in
    each k inside ∙ ap (λ y. o (get_or c.args.values.now k (pos 0)) y) (sym (c.in-Some.ensures.each (first + k)))
    ∙ ap (λ p. o (get_or c.args.values.now k (pos 0)) (meaning c.args.operand.now p)) (sym place))
    c.combine_along.ensures.each

pub combine_at-returns-in-Filled-clause-each : goal.combine_at-returns-in-Filled-clause-each
combine_at-returns-in-Filled-clause-each t c = λ k below.
    let o = either_way c.args.link.operation c.args.link.swapped in
    let old = c.args.values.now in
    let fits : SFits w64 c.in-Filled.value = search rules in
    let value : ℤ = to_z w64 (of_z w64 c.in-Filled.value) in
    let same : to_z w64 (of_z w64 c.in-Filled.value) ≡ c.in-Filled.value = simp to_z-of_z refl in
    let start : 0 + k ≡ k = omega arith in
    ap (λ j. get_or c.combine_row.new.values j (pos 0)) (sym start)
    ∙ c.combine_row.ensures.each k (omega (arith, below, c.repeated.ensures.count, c.len.ensures))
    ∙ ap (λ j. o (get_or old j (pos 0)) (get_or (value ∷ []) (place_in c.repeated.result k) (pos 0))) start
    ∙ ap (λ p. o (get_or old k (pos 0)) (get_or (value ∷ []) p (pos 0))) (c.repeated.ensures.first k)
    ∙ ap (λ x. o (get_or old k (pos 0)) x) same
    ∙ ap (λ a. o (get_or old k (pos 0)) (meaning a (get_or (places_of c.args.places.now) k 0))) (sym c.in-Filled.is)

pub values_at-values_at-requires-in-View : goal.values_at-values_at-requires-in-View
values_at-values_at-requires-in-View t c = (
  omega (arith, c.decreases, ap depth_of c.in-View.is, ap depth_of c.deref-in-View-2.ensures),
  (
    let sound = rw c.in-View.is at c.requires.sound in rw c.deref-in-View-2.ensures sound.0,
    let sound = rw c.in-View.is at c.requires.sound in
        let below = rw c.in-View.is at c.requires.places in
        let listed : c.deref-in-View-3.result.now ≡ map (reached c.in-View.view.start c.in-View.view.axes.items) (places_of c.args.places.now) =
        c.deref-in-View-3.ensures.value ∙ c.in_ok-sources-in-View.ensures
        ∙ ap (λ s. map (reached s c.as_ref-view.result.axes.now) (places_of c.args.places.now)) c.as_ref-view.ensures.start
        ∙ ap (λ l. map (reached c.in-View.view.start l) (places_of c.args.places.now)) c.as_ref-view.ensures.axes in
        rw (listed, c.deref-in-View-2.ensures)
        (λ k within. reached-within (reached c.in-View.view.start c.in-View.view.axes.items) c.args.places.now (view_size c.in-View.view.axes.items)
        (count_of c.in-View.operand.value) k below sound.1.1 within),
  ),
)

pub values_at-returns-in_ok-values-in-Unary : goal.values_at-returns-in_ok-values-in-Unary
values_at-returns-in_ok-values-in-Unary t c =
    let values = c.in_ok-values-in-Unary.values in
    rw c.in-Unary.is
    (all-written values.len c.apply.new.values values.items (c.apply.ensures.len ∙ c.deref_mut.ensures.len)
    ∙ places-applied (places_of c.args.places.now) (applied c.in-Unary.operation) (meaning c.in-Unary.operand.value)
    c.deref_mut.result.now c.apply.new.values
    (c.deref_mut.ensures.value ∙ c.in_ok-values-in-Unary.ensures ∙ c.in_ok-values_at-in-Unary.ensures
    ∙ ap (λ a. map (meaning a) (places_of c.args.places.now)) c.deref.ensures)
    c.apply.ensures.len c.apply.ensures.each)

pub values_at-returns-in-Some-Some : goal.values_at-returns-in-Some-Some
values_at-returns-in-Some-Some t c =
    let places = places_of c.args.places.now in
    let o = either_way c.in-Binary.link.operation c.in-Binary.link.swapped in
    let f : ℕ → ℤ = meaning c.in-Binary.first.value in
    let g : ℕ → ℤ = meaning c.in-Binary.second.value in
    let list = c.in-Some-Some.list.now in
    let are : list ≡ map f places = c.in-Some-Some.ensures ∙ ap (λ a. map (meaning a) places) c.deref-in-Binary.ensures in
    let many : length list ≡ length places = ap length are ∙ length-map places f in
    rw c.in-Binary.is
    (places-paired places o f g list c.in_ok-values-in-Binary.values.items are
    (c.in_ok-values-in-Binary.ensures.len ∙ many)
    (λ k below. c.in_ok-values-in-Binary.ensures.each k (omega (arith, below, many))
    ∙ ap (o (get_or list k (pos 0)))
    (other-read (meaning c.deref-in-Binary-2.result.now) places c.in-Some-Some.others c.in-Some-Some.ensures' k below
    ∙ ap (λ a. meaning a (get_or places k 0)) c.deref-in-Binary-2.ensures)))

pub values_at-returns-in_ok-combine_at-in-Binary : goal.values_at-returns-in_ok-combine_at-in-Binary
values_at-returns-in_ok-combine_at-in-Binary t c =
    let places = places_of c.args.places.now in
    let o = either_way c.in-Binary.link.operation c.in-Binary.link.swapped in
    let values = c.in_ok-values-in-Binary-2.values in
    let old = c.deref_mut-in-Binary.result.now in
    let new = c.combine_at.new.values in
    let are : old ≡ map (meaning c.in-Binary.first.value) places =
    c.deref_mut-in-Binary.ensures.value ∙ c.in_ok-values-in-Binary-2.ensures ∙ c.in_ok-values_at-in-Binary.ensures
    ∙ ap (λ a. map (meaning a) places) c.deref-in-Binary-3.ensures in
    let long : length old ≡ length places = ap length are ∙ length-map places (meaning c.in-Binary.first.value) in
    rw c.in-Binary.is
    (all-written values.len new values.items
    (c.in_ok-combine_at-in-Binary.ensures.len ∙ sym long ∙ c.deref_mut-in-Binary.ensures.len)
    ∙ places-paired places o (meaning c.in-Binary.first.value) (meaning c.in-Binary.second.value) old new are
    c.in_ok-combine_at-in-Binary.ensures.len
    (λ k below. c.in_ok-combine_at-in-Binary.ensures.each k below
    ∙ ap (λ a. o (get_or old k (pos 0)) (meaning a (get_or places k 0))) c.deref-in-Binary-4.ensures))

pub values_at-returns-in_ok-sources-in-View : goal.values_at-returns-in_ok-sources-in-View
values_at-returns-in_ok-sources-in-View t c =
    let listed : c.deref-in-View-3.result.now ≡ map (reached c.in-View.view.start c.in-View.view.axes.items) (places_of c.args.places.now) =
    c.deref-in-View-3.ensures.value ∙ c.in_ok-sources-in-View.ensures
    ∙ ap (λ s. map (reached s c.as_ref-view.result.axes.now) (places_of c.args.places.now)) c.as_ref-view.ensures.start
    ∙ ap (λ l. map (reached c.in-View.view.start l) (places_of c.args.places.now)) c.as_ref-view.ensures.axes in
    let whole : map (meaning c.deref-in-View-2.result.now) c.deref-in-View-3.result.now
    ≡ map (λ p. meaning c.in-View.operand.value (reached c.in-View.view.start c.in-View.view.axes.items p)) (places_of c.args.places.now) =
    ap (λ a. map (meaning a) c.deref-in-View-3.result.now) c.deref-in-View-2.ensures
    ∙ ap (λ l. map (meaning c.in-View.operand.value) l) listed
    ∙ places-moved (places_of c.args.places.now) (meaning c.in-View.operand.value) (reached c.in-View.view.start c.in-View.view.axes.items) in
    rw c.in-View.is
    (subst (λ l. IfOk c.values_at-in-View.result (λ v. cow_slice_items v ≡ l)) whole c.values_at-in-View.ensures)

pub values_at-values_at-requires-in-Chain : goal.values_at-values_at-requires-in-Chain
values_at-values_at-requires-in-Chain t c =
    let sound = rw c.in-Chain.is at c.requires.sound in (
      omega (arith, c.decreases, ap depth_of c.in-Chain.is, ap depth_of c.deref-in-Chain.ensures),
      (
        rw (c.deref-in-Chain.ensures) sound.0,
        rw (c.deref-in-Chain.ensures) (rw c.in-Chain.is at c.requires.places),
      ),
    )

pub values_at-values_at-requires-in-Chain-2 : goal.values_at-values_at-requires-in-Chain-2
values_at-values_at-requires-in-Chain-2 t c =
    let sound = rw c.in-Chain.is at c.requires.sound in (
      omega (arith, c.decreases, ap depth_of c.in-Chain.is, ap depth_of c.deref-in-Chain-2.ensures),
      (
        rw (c.deref-in-Chain-2.ensures) sound.1.0,
        rw (c.deref-in-Chain-2.ensures, sound.1.1) (rw c.in-Chain.is at c.requires.places),
      ),
    )

pub values_at-returns-in_ok-operand-in-Chain : goal.values_at-returns-in_ok-operand-in-Chain
values_at-returns-in_ok-operand-in-Chain t c =
    let places = places_of c.args.places.now in
    let second : ℕ → ℤ = meaning c.in-Chain.second.value in
    let operand = c.as_slice-in-Chain.ensures.value ∙ c.in_ok-operand-in-Chain.ensures
    ∙ ap (λ a. map (meaning a) places) c.deref-in-Chain-2.ensures in
    let links = c.deref-in-Chain-3.ensures.value in
    let values = c.in_ok-values-in-Chain.values in
    let old = c.deref_mut-in-Chain.result.now in
    let new = c.combine_chain.new.values in
    let are : old ≡ map (meaning c.in-Chain.first.value) places =
    c.deref_mut-in-Chain.ensures.value ∙ c.in_ok-values-in-Chain.ensures ∙ c.in_ok-values_at-in-Chain.ensures
    ∙ ap (λ a. map (meaning a) places) c.deref-in-Chain.ensures in
    let first_long : length old ≡ length places = ap length are ∙ length-map places (meaning c.in-Chain.first.value) in
    let long : length new ≡ length places = c.combine_chain.ensures.len ∙ ap length operand ∙ length-map places second in
    rw c.in-Chain.is
    (all-written values.len new values.items (long ∙ sym first_long ∙ c.deref_mut-in-Chain.ensures.len)
    ∙ places-paired places (chained c.in-Chain.links.items) (meaning c.in-Chain.first.value) second old new are long
    (λ k below. c.combine_chain.ensures.each k (rw (ap length operand ∙ length-map places second) below)
    ∙ ap (λ ls. chained ls (get_or old k (pos 0)) (get_or c.as_slice-in-Chain.result.now k (pos 0))) links
    ∙ ap (λ l. chained c.in-Chain.links.items (get_or old k (pos 0)) (get_or l k (pos 0))) operand
    ∙ ap (λ y. chained c.in-Chain.links.items (get_or old k (pos 0)) y) (get_or-map second places k 0 (pos 0) below)))

pub values_at-values_at-requires-in-Select : goal.values_at-values_at-requires-in-Select
values_at-values_at-requires-in-Select t c =
    let sound = rw c.in-Select.is at c.requires.sound in (
      omega (arith, c.decreases, ap depth_of c.in-Select.is, ap depth_of c.deref-in-Select.ensures),
      (
        rw (c.deref-in-Select.ensures) sound.0,
        rw (c.deref-in-Select.ensures) (rw c.in-Select.is at c.requires.places),
      ),
    )

pub values_at-values_at-requires-in-Select-2 : goal.values_at-values_at-requires-in-Select-2
values_at-values_at-requires-in-Select-2 t c =
    let sound = rw c.in-Select.is at c.requires.sound in (
      omega (arith, c.decreases, ap depth_of c.in-Select.is, ap depth_of c.deref-in-Select-2.ensures),
      (
        rw (c.deref-in-Select-2.ensures) sound.1.0.0,
        rw (c.deref-in-Select-2.ensures, sound.1.0.1) (rw c.in-Select.is at c.requires.places),
      ),
    )

pub values_at-values_at-requires-in-Select-3 : goal.values_at-values_at-requires-in-Select-3
values_at-values_at-requires-in-Select-3 t c =
    let sound = rw c.in-Select.is at c.requires.sound in (
      omega (arith, c.decreases, ap depth_of c.in-Select.is, ap depth_of c.deref-in-Select-3.ensures),
      (
        rw (c.deref-in-Select-3.ensures) sound.1.1.0,
        rw (c.deref-in-Select-3.ensures, sound.1.1.1) (rw c.in-Select.is at c.requires.places),
      ),
    )

pub values_at-returns-in_ok-third-in-Select : goal.values_at-returns-in_ok-third-in-Select
values_at-returns-in_ok-third-in-Select t c =
    let places = places_of c.args.places.now in
    let values = c.in_ok-values-in-Select.values in
    let old = c.deref_mut-in-Select.result.now in
    let new = c.select.new.values in
    let are : old ≡ map (meaning c.in-Select.first.value) places =
    c.deref_mut-in-Select.ensures.value ∙ c.in_ok-values-in-Select.ensures ∙ c.in_ok-values_at-in-Select.ensures
    ∙ ap (λ a. map (meaning a) places) c.deref-in-Select.ensures in
    let second : c.as_slice-in-Select.result.now ≡ map (meaning c.in-Select.second.value) places =
    c.as_slice-in-Select.ensures.value ∙ c.in_ok-second-in-Select.ensures
    ∙ ap (λ a. map (meaning a) places) c.deref-in-Select-2.ensures in
    let first_long : length old ≡ length places = ap length are ∙ length-map places (meaning c.in-Select.first.value) in
    let long : length new ≡ length places =
    c.select.ensures.len ∙ ap length second ∙ length-map places (meaning c.in-Select.second.value) in
    rw c.in-Select.is
    (all-written values.len new values.items (long ∙ sym first_long ∙ c.deref_mut-in-Select.ensures.len)
    ∙ places-selected places (selected c.in-Select.order)
    (meaning c.in-Select.first.value) (meaning c.in-Select.second.value) (meaning c.in-Select.third.value)
    old c.as_slice-in-Select.result.now c.as_slice-in-Select-2.result.now new are second
    (c.as_slice-in-Select-2.ensures.value ∙ c.in_ok-third-in-Select.ensures
    ∙ ap (λ a. map (meaning a) places) c.deref-in-Select-3.ensures)
    c.select.ensures.len c.select.ensures.each)

pub values_at-returns-in_ok-values-in-Filled : goal.values_at-returns-in_ok-values-in-Filled
values_at-returns-in_ok-values-in-Filled t c =
    let made : c.in_ok-values-in-Filled.values.items ≡ replicate c.len.result c.in-Filled.value = search rules in
    rw c.in-Filled.is
    (made ∙ ap (λ n. replicate n c.in-Filled.value) c.len.ensures ∙ map-constant c.in-Filled.value (places_of c.args.places.now))

pub interleaved_at-values_at-requires : goal.interleaved_at-values_at-requires
interleaved_at-values_at-requires t c =
    let turns = c.args.turns in
    let below = rw c.in-Run.is at c.requires.places in (
      omega (arith, c.decreases),
      (
        c.requires.second,
        rw (c.seconds_before-second_from.ensures, c.seconds_before-second_to.ensures)
            (seconds-run turns.first turns.second (count_of c.args.first.now) (count_of c.args.second.now) c.requires.turns c.in-Run.from c.in-Run.to
            below.0 below.1),
      ),
    )

pub interleaved_at-values_at-requires-then-second_from-second_to : goal.interleaved_at-values_at-requires-then-second_from-second_to
interleaved_at-values_at-requires-then-second_from-second_to t c =
    let turns = c.args.turns in
    let below = rw c.in-Run.is at c.requires.places in (
      omega (arith, c.decreases),
      (
        c.requires.first,
        rw (c.firsts_before-first_from.ensures, c.firsts_before-first_to.ensures)
            (firsts-run turns.first turns.second (count_of c.args.first.now) (count_of c.args.second.now) c.requires.turns c.in-Run.from c.in-Run.to
            below.0 below.1),
      ),
    )

pub interleaved_at-values_at-requires-in-Run : goal.interleaved_at-values_at-requires-in-Run
interleaved_at-values_at-requires-in-Run t c =
    let turns = c.args.turns in
    let below = rw c.in-Run.is at c.requires.places in (
      omega (arith, c.decreases),
      (
        c.requires.first,
        rw (c.firsts_before-first_from.ensures, c.firsts_before-first_to.ensures)
            (firsts-run turns.first turns.second (count_of c.args.first.now) (count_of c.args.second.now) c.requires.turns c.in-Run.from c.in-Run.to
            below.0 below.1),
      ),
    )

pub interleaved_at-values_at-requires-in-Run-2 : goal.interleaved_at-values_at-requires-in-Run-2
interleaved_at-values_at-requires-in-Run-2 t c =
    let turns = c.args.turns in
    let below = rw c.in-Run.is at c.requires.places in (
      omega (arith, c.decreases),
      (
        c.requires.second,
        rw (c.seconds_before-second_from.ensures, c.seconds_before-second_to.ensures)
            (seconds-run turns.first turns.second (count_of c.args.first.now) (count_of c.args.second.now) c.requires.turns c.in-Run.from c.in-Run.to
            below.0 below.1),
      ),
    )

pub interleaved_at-values_at-requires-in-Listed : goal.interleaved_at-values_at-requires-in-Listed
interleaved_at-values_at-requires-in-Listed t c =
    let turns = c.args.turns in
    let below = rw c.in-Listed.is at c.requires.places in (
      omega (arith, c.decreases),
      (
        c.requires.first,
        rw (c.deref.ensures.value ∙ c.in_ok-firsts-in-Listed.ensures.firsts)
            (first_places-below turns.first turns.second (count_of c.args.first.now) (count_of c.args.second.now) c.requires.turns
            c.in-Listed.places.now below),
      ),
    )

pub interleaved_at-values_at-requires-in-Listed-2 : goal.interleaved_at-values_at-requires-in-Listed-2
interleaved_at-values_at-requires-in-Listed-2 t c =
    let turns = c.args.turns in
    let below = rw c.in-Listed.is at c.requires.places in (
      omega (arith, c.decreases),
      (
        c.requires.second,
        rw (c.deref-in-Listed.ensures.value ∙ c.in_ok-firsts-in-Listed.ensures.seconds)
            (second_places-below turns.first turns.second (count_of c.args.first.now) (count_of c.args.second.now) c.requires.turns
            c.in-Listed.places.now below),
      ),
    )

pub interleaved_at-interleaved_run-requires-clause-firsts : goal.interleaved_at-interleaved_run-requires-clause-firsts
interleaved_at-interleaved_run-requires-clause-firsts t c =
    let from : ℕ = c.firsts_before-first_from.result in
    let to : ℕ = c.firsts_before-first_to.result in
    ap length (c.as_slice-firsts.ensures.value ∙ c.in_ok-firsts-in-Run.ensures)
    ∙ length-map-range_with_len (meaning c.args.first.now) from (to - from)
    ∙ ap (λ n. n - from) c.firsts_before-first_to.ensures
    ∙ ap (λ n. firsts_before c.args.turns.first c.args.turns.second c.in-Run.to - n) c.firsts_before-first_from.ensures

pub interleaved_at-interleaved_run-requires-clause-seconds : goal.interleaved_at-interleaved_run-requires-clause-seconds
interleaved_at-interleaved_run-requires-clause-seconds t c =
    let from : ℕ = c.seconds_before-second_from.result in
    let to : ℕ = c.seconds_before-second_to.result in
    ap length (c.as_slice-seconds.ensures.value ∙ c.in_ok-seconds-in-Run.ensures)
    ∙ length-map-range_with_len (meaning c.args.second.now) from (to - from)
    ∙ ap (λ n. n - from) c.seconds_before-second_to.ensures
    ∙ ap (λ n. seconds_before c.args.turns.first c.args.turns.second c.in-Run.to - n) c.seconds_before-second_from.ensures

pub interleaved_at-returns-then-first_from-first_to : goal.interleaved_at-returns-then-first_from-first_to
interleaved_at-returns-then-first_from-first_to t c =
    let turns = c.args.turns in
    let f : ℕ → ℤ = meaning c.args.first.now in
    let g : ℕ → ℤ = meaning c.args.second.now in
    let from : ℕ = c.in-Run.from in
    let to : ℕ = c.in-Run.to in
    let below = rw c.in-Run.is at c.requires.places in
    let none : firsts_before turns.first turns.second to ≡ firsts_before turns.first turns.second from =
    sym c.firsts_before-first_to.ensures ∙ sym c.if-first_from-first_to.true ∙ c.firsts_before-first_from.ensures in
    let whole : map g (range_with_len c.seconds_before-second_from.result (c.seconds_before-second_to.result - c.seconds_before-second_from.result))
    ≡ map (interleaved turns.first turns.second f g) (range_with_len from (to - from)) =
    ap (λ a. map g (range_with_len a (c.seconds_before-second_to.result - a))) c.seconds_before-second_from.ensures
    ∙ ap (λ b. map g (range_with_len (seconds_before turns.first turns.second from) (b - seconds_before turns.first turns.second from)))
    c.seconds_before-second_to.ensures
    ∙ map-second_alone turns.first turns.second turns.some f g from to below.0 none in
    rw c.in-Run.is (subst (λ l. IfOk c.values_at.result (λ v. cow_slice_items v ≡ l)) whole c.values_at.ensures)

pub interleaved_at-returns-then-second_from-second_to : goal.interleaved_at-returns-then-second_from-second_to
interleaved_at-returns-then-second_from-second_to t c =
    let turns = c.args.turns in
    let f : ℕ → ℤ = meaning c.args.first.now in
    let g : ℕ → ℤ = meaning c.args.second.now in
    let from : ℕ = c.in-Run.from in
    let to : ℕ = c.in-Run.to in
    let below = rw c.in-Run.is at c.requires.places in
    let none : seconds_before turns.first turns.second to ≡ seconds_before turns.first turns.second from =
    sym c.seconds_before-second_to.ensures ∙ sym c.if-second_from-second_to.true ∙ c.seconds_before-second_from.ensures in
    let whole : map f (range_with_len c.firsts_before-first_from.result (c.firsts_before-first_to.result - c.firsts_before-first_from.result))
    ≡ map (interleaved turns.first turns.second f g) (range_with_len from (to - from)) =
    ap (λ a. map f (range_with_len a (c.firsts_before-first_to.result - a))) c.firsts_before-first_from.ensures
    ∙ ap (λ b. map f (range_with_len (firsts_before turns.first turns.second from) (b - firsts_before turns.first turns.second from)))
    c.firsts_before-first_to.ensures
    ∙ map-first_alone turns.first turns.second turns.some f g from to below.0 none in
    rw c.in-Run.is
    (subst (λ l. IfOk c.values_at-then-second_from-second_to.result (λ v. cow_slice_items v ≡ l)) whole
    c.values_at-then-second_from-second_to.ensures)
