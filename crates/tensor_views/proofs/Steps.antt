-- Places of index lists that are 0 but at some axes, axis by axis.
use Rattle.std.proofs.Common.{◌≡◌, ℕ, zero, suc, ◌*◌, ◌<◌, ◌≤◌, max, List, [], ◌∷◌}
use Rattle.std.proofs.Common.{◌-◌, length, get_or, take, drop, true}
use Rattle.std.proofs.Common.{ap, ◌∙◌, arith, inl, inr}
use Rattle.std.proofs.lemmas.Bool.{cases_Bool}
use Rattle.std.proofs.Math.Nat.{mul-le-mul_left, mul-le-mul}
use Rattle.std.proofs.Math.Seq.{drop-cons}
use Rattle.tensor_shape.specs.Index.{size_of, place, index_of}
use Rattle.tensor_shape.specs.Legal.{bulk_of}
use Rattle.tensor_shape.proofs.Places.{place-cons, IsIndexOf-index_of}
use Rattle.tensor_views.specs.Forward.{forward, no_axis}
use Rattle.tensor_views.specs.Axes.{axes_from}
use Rattle.tensor_terms.specs.Movement.{scattered, is_among}
use Rattle.tensor_views.specs.Offsets.{offset_of}
use Rattle.tensor_terms.specs.Reduction.{are_axes}
use Rattle.tensor_terms.specs.Merged.{dims_at}
use Rattle.tensor_terms.proofs.Moved.{scattered-below, length-scattered}
use Rattle.tensor_terms.proofs.Moved.{zeros, get_or-zeros, scattered-other}
use Rattle.tensor_terms.proofs.Weaving.{length-zeros}

-- one axis of whole dims: its step is the size of the dims before it
pub get_or-axes_from : (t : ℕ) (ds : List ℕ) (k : ℕ) → k < length ds
    → get_or (axes_from t ds) k no_axis ≡ forward (get_or ds k 0) (t * size_of (take k ds))
get_or-axes_from t [] k within = absurd (omega arith)
get_or-axes_from t (d ∷ ds) zero within = ap (forward d) (omega arith)
get_or-axes_from t (d ∷ ds) (suc k) within =
    get_or-axes_from (t * d) ds k (omega arith)
    ∙ ap (forward (get_or ds k 0)) (regroup (size_of (take k ds)))
  where
    regroup : (n : ℕ) → t * d * n ≡ t * (d * n)
    regroup n = grind arith

-- numbers below their dimensions, a 0 counted as 1, lie below the bulk
place-below-bulk_of : (ds is : List ℕ) → length is ≡ length ds
    → ((a : ℕ) → a < length ds → get_or is a 0 < max 1 (get_or ds a 0)) → place ds is < bulk_of ds
place-below-bulk_of [] [] long each = omega arith
place-below-bulk_of [] (i ∷ is) long each = absurd (omega arith)
place-below-bulk_of (d ∷ ds) [] long each = absurd (omega arith)
place-below-bulk_of (d ∷ ds) (i ∷ is) long each =
    let first : i < max 1 d = each 0 (omega arith) in
    let rest : place ds is < bulk_of ds =
    place-below-bulk_of ds is (omega arith) (λ a below. each (suc a) (omega arith)) in
    let wide : d ≤ max 1 d = omega arith in
    let same : place ds is ≤ place ds is = omega arith in
    rw (place-cons d i ds is)
    (omega (arith, mul-le-mul wide same, mul-le-mul_left (max 1 d) rest))

module _ (axes ds : List ℕ) (legal : are_axes (length ds) axes ≡ true) where
  -- an offset lies below the bulk
  pub offset_of-below-bulk_of : (p : ℕ) → p < size_of (dims_at axes ds)
      → offset_of axes ds p < bulk_of ds
  offset_of-below-bulk_of p below =
      let is : List ℕ = index_of (dims_at axes ds) p in
      let index = IsIndexOf-index_of (dims_at axes ds) p below in
      place-below-bulk_of ds (scattered axes is (zeros ds))
      (length-scattered axes is (zeros ds) ∙ length-zeros ds)
      (λ a within.
      elim (cases_Bool (is_among a axes)) [
        | inl holds ↦
            let small = scattered-below ds axes is (zeros ds) a within
            (length-zeros ds) index holds in
            omega arith
        | inr fails ↦
            let none : get_or (scattered axes is (zeros ds)) a 0 ≡ 0 =
            scattered-other a axes is (zeros ds) fails ∙ get_or-zeros ds a in
            omega arith
      ])

-- the axes from one of them on
pub drop-before : (axes : List ℕ) (k : ℕ) → 0 < k → k ≤ length axes
    → drop (k - 1) axes ≡ get_or axes (k - 1) 0 ∷ drop k axes
drop-before axes zero some within = absurd (omega arith)
drop-before axes (suc j) some within =
    let here : suc j - 1 ≡ j = omega arith in
    rw here (drop-cons axes j 0 (omega arith))
