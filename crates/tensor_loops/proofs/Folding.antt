-- Values combined one after the other: one more, and a run more.
use Rattle.std.proofs.Common.{◌≡◌, ℕ, ℤ, ◌+◌, ◌*◌, ◌<◌, List, [], ◌∷◌, map, get_or}
use Rattle.std.proofs.Common.{refl, ap, sym, ◌∙◌, arith}
use Rattle.std.specs.List.{fold, range_with_len}
use Rattle.std.proofs.lemmas.List.FromFn.{map-range_with_len_more}
use Rattle.std.proofs.lemmas.List.Sums.{fold-append}
use Rattle.std.proofs.lemmas.Nat.{div-mul-add, mod-mul-add}
use Rattle.tensor_loops.specs.Folds.{folded, offset_at}
use Rattle.tensor_values.specs.Combining.{combine}
use Rattle.tensor_values.specs.declared.reducer.Reducer.{Reducer}
use Rattle.tensor_values.proofs.Runs.{map-shifted, map-joined}

module _ (r : Reducer) (x : ℤ) where
  pub folded-more : (f : ℕ → ℤ) (n : ℕ) → folded r x f (n + 1) ≡ combine r (folded r x f n) (f n)
  folded-more f n =
      ap (fold (combine r) x) (map-range_with_len_more f 0 n n (omega arith))
      ∙ fold-append (combine r) x (map f (range_with_len 0 n)) (f n ∷ [])

  pub folded-ext : (f g : ℕ → ℤ) (n : ℕ) → ((k : ℕ) → k < n → f k ≡ g k)
      → folded r x f n ≡ folded r x g n
  folded-ext f g n same =
      ap (fold (combine r) x)
      (map-shifted f g 0 0 n (λ k below. ap f (omega arith) ∙ same k below ∙ ap g (omega arith)))

  -- a run of m more
  pub folded-append : (f : ℕ → ℤ) (n m : ℕ)
      → folded r x f (n + m) ≡ folded r (folded r x f n) (λ t. f (n + t)) m
  folded-append f n m =
      let shifted : map f (range_with_len (0 + n) m) ≡ map (λ t. f (n + t)) (range_with_len 0 m) =
      map-shifted f (λ t. f (n + t)) (0 + n) 0 m (λ k below. ap f (omega arith)) in
      ap (fold (combine r) x) (sym (map-joined f 0 n m))
      ∙ fold-append (combine r) x (map f (range_with_len 0 n)) (map f (range_with_len (0 + n) m))
      ∙ ap (fold (combine r) (folded r x f n)) shifted

-- a place of a run
pub offset_at-run : (offsets : List ℕ) (step run k t : ℕ) → t < run
    → offset_at offsets step run (k * run + t) ≡ get_or offsets k 0 + t * step
offset_at-run offsets step run k t below =
    rw (mod-mul-add k run t below, div-mul-add k run t below) refl
