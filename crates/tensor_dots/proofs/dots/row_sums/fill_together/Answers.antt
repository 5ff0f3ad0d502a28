use Rattle.std.proofs.Common.{◌≡◌, ℕ, ◌+◌, ◌-◌, ◌<◌, ℤ, List, length, inl, inr, ap, sym, ◌∙◌, arith}
use Rattle.std.proofs.lemmas.Bool.{cases_lt}
use Rattle.tensor_values.specs.Values.{value_in}
use Rattle.tensor_dots.specs.private.RowPairs.{pair_dot}
use Rattle.tensor_dots.proofs.dots.row_sums.fill_together.Goals as goal

-- some sums more
together : (f : ℕ → ℤ) (before after sums : List ℤ) (k n : ℕ) → length sums ≡ n
    → ((j : ℕ) → j < k → value_in before j ≡ f j)
    → ((t : ℕ) → t < length sums → value_in after (k + t) ≡ value_in sums t)
    → ((j : ℕ) → j < k → value_in after j ≡ value_in before j)
    → ((t : ℕ) → t < n → value_in sums t ≡ f (k + t))
    → (j : ℕ) → j < k + n → value_in after j ≡ f j
together f before after sums k n long so_far stored kept is j below =
    elim (cases_lt j k) [
      | inl earlier ↦ kept j earlier ∙ so_far j earlier
      | inr later ↦
          let t : ℕ = j - k in
          let here : k + t ≡ j = omega arith in
          let few : t < n = omega arith in
          ap (value_in after) (sym here) ∙ stored t (omega (arith, long)) ∙ is t few ∙ ap f here
    ]

pub loop-out-preserved-then-out-k-ge16 : goal.loop-out-preserved-then-out-k-ge16
loop-out-preserved-then-out-k-ge16 c = record {
  below = omega (arith, c.store.ensures.len);
  len = c.store.ensures.len ∙ c.loop-out.invariant.len;
  each = together (pair_dot c.args.pair.now) c.loop-out.out c.store.new.out c.sixteen.result
      c.loop-out.k 16 c.sixteen.ensures.len c.loop-out.invariant.each c.store.ensures.stored
      c.store.ensures.kept c.sixteen.ensures.each;
}

pub loop-out-preserved : goal.loop-out-preserved
loop-out-preserved c =
    let store = c.store-else-out-k-ge16 in
    record {
      below = omega (arith, store.ensures.len);
      len = store.ensures.len ∙ c.loop-out.invariant.len;
      each = together (pair_dot c.args.pair.now) c.loop-out.out store.new.out c.eight.result
          c.loop-out.k 8 c.eight.ensures.len c.loop-out.invariant.each store.ensures.stored
          store.ensures.kept c.eight.ensures.each;
    }
