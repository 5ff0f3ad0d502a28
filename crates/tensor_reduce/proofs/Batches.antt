-- Items of batches, one behind the other.
use Rattle.std.proofs.Common.{◌≡◌, ◌∙◌, ◌+◌, ◌-◌, ◌≤◌, ◌++◌, ◌∷◌, ℕ, zero, suc, List, map, refl, ap, sym, arith}
use Rattle.std.proofs.lemmas.List.{map-append}
use Rattle.std.specs.List.{range_with_len}
use Rattle.parallel_for.specs.Items.{AreItems}
use Rattle.tensor_ops.proofs.OtherAxes.{range_with_len-append}

module _ {I : Type 0} (item_at : ℕ → I) where
  -- counted from a place on, items are those at the places from there
  map-from : (start from count : ℕ) → map (λ k. item_at (start + k)) (range_with_len from count)
      ≡ map item_at (range_with_len (start + from) count)
  map-from start from zero = refl
  map-from start from (suc count) =
      let next : start + (from + 1) ≡ start + from + 1 = omega arith in
      ap (λ (l : List I). item_at (start + from) ∷ l)
      (map-from start (from + 1) count
      ∙ ap (λ (n : ℕ). map item_at (range_with_len n count)) next)

  -- the items of a kernel are the items of one of its batches
  pub items-from : (start first last : ℕ) (items : List I)
      → AreItems item_at (start + first) (start + last) items
      → AreItems (λ k. item_at (start + k)) first last items
  items-from start first last items are =
      let count : start + last - (start + first) ≡ last - first = omega arith in
      are ∙ ap (λ (n : ℕ). map item_at (range_with_len (start + first) n)) count
      ∙ sym (map-from start first (last - first))

  -- the items of a batch behind all before it
  pub items-more : (first last : ℕ) (before batch all : List I) → first ≤ last
      → AreItems item_at 0 first before
      → AreItems (λ k. item_at (first + k)) 0 (last - first) batch
      → all ≡ before ++ batch → AreItems item_at 0 last all
  items-more first last before batch all order low high joined =
      let here : batch ≡ map item_at (range_with_len first (last - first)) =
      high ∙ map-from first 0 (last - first - 0)
      ∙ ap (λ (n : ℕ). map item_at (range_with_len n (last - first - 0))) (omega arith)
      ∙ ap (λ (n : ℕ). map item_at (range_with_len first n)) (omega arith) in
      let there : before ≡ map item_at (range_with_len 0 first) =
      low ∙ ap (λ (n : ℕ). map item_at (range_with_len 0 n)) (omega arith) in
      joined
      ∙ ap (λ (l : List I). l ++ batch) there
      ∙ ap (λ (l : List I). map item_at (range_with_len 0 first) ++ l) here
      ∙ sym (map-append item_at (range_with_len 0 first) (range_with_len first (last - first)))
      ∙ ap (λ (n : ℕ). map item_at (range_with_len 0 first ++ range_with_len n (last - first)))
      (omega arith)
      ∙ ap (map item_at) (range_with_len-append 0 first (last - first))
      ∙ ap (λ (n : ℕ). map item_at (range_with_len 0 n)) (omega arith)
