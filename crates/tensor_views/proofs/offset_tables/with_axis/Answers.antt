use Rattle.std.proofs.Common.{◌≡◌, ℕ, ◌+◌, ◌*◌, ◌/◌, ◌%◌, ◌<◌, List, [], ◌∷◌, ◌++◌, length}
use Rattle.std.proofs.Common.{slice_index, ap, ◌∙◌, arith, inl, inr}
use Rattle.std.proofs.lemmas.Bool.{cases_lt}
use Rattle.std.proofs.lemmas.Grind.{common_steps}
use Rattle.std.proofs.lemmas.List.{get_or_append_left, get_or_at}
use Rattle.std.proofs.lemmas.Nat.{div-mul-add, mod-mul-add, mul-add-lt}
use Rattle.tensor_views.proofs.offset_tables.with_axis.Goals as goal

-- one place more
next_place : (moved places : List ℕ) (k size i step : ℕ) → length moved ≡ k * size + i → i < size
    → ((p : ℕ) → p < k * size + i → slice_index moved p ≡ slice_index places
    (p / size) + p % size * step)
    → (p : ℕ) → p < k * size + (i + 1)
    → slice_index (moved ++ (slice_index places k + i * step) ∷ []) p ≡ slice_index places
    (p / size) + p % size * step
next_place moved places k size i step long inside before p below =
    elim (cases_lt p (k * size + i)) [
      | inl earlier ↦ get_or_append_left moved _ 0 p (omega arith) ∙ before p earlier
      | inr after ↦
          let here : p ≡ k * size + i = omega arith in
          rw here
          (rw (mod-mul-add k size i inside, div-mul-add k size i inside)
          (get_or_at moved (slice_index places k + i * step) [] 0 (k * size + i) long))
    ]

-- one row more
next_row : (k size : ℕ) → (k + 1) * size ≡ k * size + size
next_row k size = grind arith

pub loop-place-init : goal.loop-place-init
loop-place-init c = record {
  long = omega (arith, ap length c.in_ok-moved.ensures.items);
  room = c.in_ok-moved.ensures.exact;
  each = λ p below. absurd (omega (arith, below));
}

pub loop-index-init : goal.loop-index-init
loop-index-init c =
    let inv = c.loop-place.invariant in
    record {
      long = omega (arith, inv.long);
      room = inv.room;
      each = λ p below. inv.each p (omega (arith, below));
    }

pub loop-index-preserved : goal.loop-index-preserved
loop-index-preserved c = record {
  long = grind (arith, common_steps);
  room = omega (arith, c.push_reserved.ensures.capacity);
  each = λ p below. rw c.push_reserved.ensures.items
      (next_place c.loop-index.moved.items c.args.places.now c.loop-place.place-index c.args.size
      c.loop-index.index c.args.step
      c.loop-index.invariant.long c.loop-index-test.true c.loop-index.invariant.each p below);
}

pub push_reserved-requires : goal.push_reserved-requires
push_reserved-requires c =
    omega (
      arith,
      c.loop-index.invariant.long,
      c.loop-index.invariant.room,
      mul-add-lt c.loop-place.place-index c.args.size c.loop-index.index (length c.args.places.now)
          (omega arith) c.loop-index-test.true,
    )

pub loop-place-preserved : goal.loop-place-preserved
loop-place-preserved c =
    let inv = c.loop-index.invariant in
    let end : c.loop-index.index ≡ c.args.size = omega arith in
    let row = next_row c.loop-place.place-index c.args.size in
    record {
      long = omega (arith, inv.long, end, row);
      room = inv.room;
      each = λ p below. inv.each p (omega (arith, below, end, row));
    }

pub returns : goal.returns
returns c =
    let end : c.loop-place.place-index ≡ length c.args.places.now = omega arith in
    record {
      len = c.loop-place.invariant.long ∙ ap (λ n. n * c.args.size) end;
      each = rw end at c.loop-place.invariant.each;
    }
