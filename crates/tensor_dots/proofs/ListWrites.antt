-- What a list holds after one of its values was set.
use Rattle.std.proofs.Common.{◌≡◌, ◌≢◌, ℕ, ◌+◌, ◌-◌, ◌<◌, ℤ, pos, List, length, take, drop}
use Rattle.std.proofs.Common.{[], ◌∷◌, ◌++◌, ◌∙◌}
use Rattle.std.proofs.Common.{slice_set, refl, sym, subst, arith, below_more}
use Rattle.std.proofs.Common.{get_or-set_other, get_or-set_same, to_z, of_z}
use Rattle.std.proofs.lemmas.List.{take_rest, get_or-drop, get_or_append_left, get_or_push}
use Rattle.std.proofs.lemmas.Int.{SFits-int_wrap, to_z-of_z}
use Rattle.std.specs.Int.{w64}
use mir.Val.{SFits}
use Rattle.tensor_values.specs.Values.{value_in}
use Rattle.tensor_shape.specs.Wrap.{wrap}

-- a wrapped number fits a cell of 64 bits
pub stored : (r z : ℤ) → r ≡ wrap z → to_z w64 (of_z w64 r) ≡ r
stored r z is = to_z-of_z w64 r (subst (SFits w64) (sym is) (SFits-int_wrap w64 z))

-- the values up to the one that is set, and those after it
pub set-next : (f : ℕ → ℤ) (xs : List ℤ) (t : ℕ) (v : ℤ) → t < length xs
    → ((s : ℕ) → s < t → value_in xs s ≡ f s) → v ≡ f t → (s : ℕ) → s < t + 1
    → value_in (slice_set xs t v) s ≡ f s
set-next f xs t v room before here =
    below_more _ _
    (λ s h. let ne : s ≢ t = omega arith in rw get_or-set_other (before s h))
    (rw get_or-set_same here)

pub set-rest : (xs : List ℤ) (t : ℕ) (v : ℤ) (s : ℕ) → t < s
    → value_in (slice_set xs t v) s ≡ value_in xs s
set-rest xs t v s later = let ne : s ≢ t = omega arith in rw get_or-set_other refl

-- a list from a place on
pub value_in-from : (xs : List ℤ) (i k : ℕ)
    → value_in (take (length xs - i) (drop i xs)) k ≡ value_in xs (i + k)
value_in-from xs i k = rw take_rest (get_or-drop i xs k (pos 0))

-- one place more of those from place k on
pub stored-next : (f : ℕ → ℤ) (xs : List ℤ) (k t : ℕ) (v : ℤ) → k + t < length xs
    → ((s : ℕ) → s < t → value_in xs (k + s) ≡ f s) → v ≡ f t
    → (s : ℕ) → s < t + 1 → value_in (slice_set xs (k + t) v) (k + s) ≡ f s
stored-next f xs k t v room before here =
    below_more _ _
    (λ s h. let ne : k + s ≢ k + t = omega arith in rw get_or-set_other (before s h))
    (rw get_or-set_same here)

-- the places before the one that is set
pub kept-next : (xs : List ℤ) (k : ℕ) (v : ℤ) (s : ℕ) → s < k
    → value_in (slice_set xs k v) s ≡ value_in xs s
kept-next xs k v s before = let ne : s ≢ k = omega arith in rw get_or-set_other refl

-- one value more at the end
pub push-next : (f : ℕ → ℤ) (xs : List ℤ) (v : ℤ) (n : ℕ) → length xs ≡ n
    → ((k : ℕ) → k < n → value_in xs k ≡ f k) → v ≡ f n
    → (k : ℕ) → k < n + 1 → value_in (xs ++ v ∷ []) k ≡ f k
push-next f xs v n long before here =
    below_more _ _
    (λ k h. get_or_append_left xs (v ∷ []) (pos 0) k (omega (arith, long)) ∙ before k h)
    (get_or_push xs v (pos 0) n long ∙ here)
