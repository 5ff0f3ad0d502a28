-- Values that are written by tiles.
use Rattle.std.proofs.Common.{◌≡◌, ◌≢◌, ℕ, ℤ, pos, ◌+◌, ◌*◌, ◌/◌, ◌%◌, ◌<◌, List, length}
use Rattle.std.proofs.Common.{get_or, set, inl, inr, subst, ◌∙◌, arith}
use Rattle.std.proofs.Math.Nat.{mod-add-div', mod-lt}
use Rattle.std.proofs.lemmas.Bool.{cases_eq}
use Rattle.std.proofs.lemmas.List.{get_or-set_same, get_or-set_other}
use Rattle.std.proofs.lemmas.Nat.{same_from_place, mul-add-lt, div_below}

-- a place of one of eight rows lies in the slab
pub in_slab : (index k stride : ℕ) → index < stride → k < 8 → index + k * stride < 8 * stride
in_slab index k stride row few = omega (arith, mul-add-lt k stride index 8 few row)

-- and each place of the slab is one of these
pub of_slab : (P : ℕ → Type 0) (stride : ℕ) → 0 < stride
    → ((i k : ℕ) → i < stride → k < 8 → P (i + k * stride)) → (p : ℕ) → p < 8 * stride → P p
of_slab P stride some each p below =
    let here : p % stride + p / stride * stride ≡ p = omega (arith, mod-add-div' p stride) in
    subst P here (each (p % stride) (p / stride) (mod-lt p some) (div_below p stride 8 some below))

-- places of two indices are two
apart : (i j index k stride : ℕ) → i < stride → index < stride → i + j * stride ≡ index + k * stride
    → (j ≡ k) × (i ≡ index)
apart i j index k stride low row same = same_from_place j i k index stride low row (omega (arith, same))

module _ (vs : List ℤ) (index k stride : ℕ) (x : ℤ) (row : index < stride) where
  -- one row more that has its value
  pub put-more : (f : ℕ → ℤ) → index + k * stride < length vs → x ≡ f k
      → ((j : ℕ) → j < k → get_or vs (index + j * stride) (pos 0) ≡ f j)
      → (j : ℕ) → j < k + 1 → get_or (set vs (index + k * stride) x) (index + j * stride) (pos 0) ≡ f j
  put-more f within here before j below =
      elim (cases_eq j k) [
        | inl same ↦ rw same (get_or-set_same vs (index + k * stride) x (pos 0) within ∙ here)
        | inr other ↦
            get_or-set_other vs (index + k * stride) (index + j * stride) x (pos 0)
            (λ e. other (apart index j index k stride row row e).0)
            ∙ before j (omega (arith, other, below))
      ]

  -- and what stands at another index stays
  pub put-kept : (i j : ℕ) → i < stride → i ≢ index
      → get_or (set vs (index + k * stride) x) (i + j * stride) (pos 0) ≡ get_or vs (i + j * stride) (pos 0)
  put-kept i j low other =
      get_or-set_other vs (index + k * stride) (i + j * stride) x (pos 0)
      (λ e. other (apart i j index k stride low row e).1)
