-- Lists of axes, one axis after another, and views along dims.
use Rattle.std.proofs.Common.{◌≡◌, ℕ, zero, suc, ◌+◌, ◌*◌, ◌/◌, ◌%◌, ◌<◌, ◌≤◌, min, max, List, [], ◌∷◌, length, get_or, drop, Bool, true, false, not, ◌&&◌, nat_eq}
use Rattle.std.proofs.Common.{refl, ap, arith, add-one}
use Rattle.std.proofs.lemmas.Bool.{and_parts, and_from, eqb-true, eq-eqb, not-true}
use Rattle.std.proofs.Math.Nat.{mul-le-mul, mul-le-mul_left, mul-le-mul_right}
use Rattle.std.proofs.Math.Seq.{drop-cons}
use Rattle.std.specs.Int.{div_ceil}
use Rattle.tensor_shape.specs.Index.{size_of, place_by, index_of}
use Rattle.tensor_shape.specs.Legal.{bulk_of}
use Rattle.tensor_shape.proofs.Sizes.{one-le-bulk_of}
use Rattle.tensor_views.specs.Forward.{forward, no_axis}
use Rattle.tensor_views.specs.Axes.{axes_from, are_along, by_steps}
use Rattle.tensor_views.specs.private.MovedAxes.{repeated_axes, cut_axes, reversed_axes, strided_axes}
use Rattle.tensor_views.specs.View.{reached, view_size}
use Rattle.tensor_views.specs.declared.axis.Axis.{Axis}

-- one axis of whole dims
pub axes_from-at : (t : ℕ) (ds : List ℕ) (i : ℕ) → i < length ds
    → axes_from t (drop i ds) ≡ forward (get_or ds i 0) t ∷ axes_from (t * get_or ds i 0) (drop (i + 1) ds)
axes_from-at t ds i within = rw (add-one, drop-cons ds i 0 within) refl

-- one axis of a list of them
pub by_steps-at : (axes : List Axis) (is : List ℕ) (i : ℕ) → i < length axes → i < length is
    → by_steps (drop i axes) (drop i is)
    ≡ get_or is i 0 * (get_or axes i no_axis).step + by_steps (drop (i + 1) axes) (drop (i + 1) is)
by_steps-at axes is i in_axes in_is = rw (add-one, drop-cons axes i no_axis in_axes, drop-cons is i 0 in_is) refl

pub repeated_axes-at : (axes : List Axis) (cs : List ℕ) (i : ℕ) → i < length axes → i < length cs
    → repeated_axes (drop i axes) (drop i cs)
    ≡ get_or axes i no_axis ∷ forward (get_or cs i 0) 0 ∷ repeated_axes (drop (i + 1) axes) (drop (i + 1) cs)
repeated_axes-at axes cs i in_axes in_cs = rw (add-one, drop-cons axes i no_axis in_axes, drop-cons cs i 0 in_cs) refl

pub cut_axes-at : (axes : List Axis) (es : List ℕ) (i : ℕ) → i < length axes → i < length es
    → cut_axes (drop i axes) (drop i es)
    ≡ forward (get_or es i 0) (get_or axes i no_axis).step ∷ cut_axes (drop (i + 1) axes) (drop (i + 1) es)
cut_axes-at axes es i in_axes in_es = rw (add-one, drop-cons axes i no_axis in_axes, drop-cons es i 0 in_es) refl

pub reversed_axes-at : (axes : List Axis) (fs : List Bool) (i : ℕ) → i < length axes → i < length fs
    → reversed_axes (drop i axes) (drop i fs)
    ≡ record { size = (get_or axes i no_axis).size; step = (get_or axes i no_axis).step; reversed = get_or fs i false }
    ∷ reversed_axes (drop (i + 1) axes) (drop (i + 1) fs)
reversed_axes-at axes fs i in_axes in_fs = rw (add-one, drop-cons axes i no_axis in_axes, drop-cons fs i false in_fs) refl

pub strided_axes-at : (axes : List Axis) (ss : List ℕ) (i : ℕ) → i < length axes → i < length ss
    → strided_axes (drop i axes) (drop i ss)
    ≡ forward (div_ceil (get_or axes i no_axis).size (get_or ss i 0))
    ((get_or axes i no_axis).step * min (get_or ss i 0) (get_or axes i no_axis).size)
    ∷ strided_axes (drop (i + 1) axes) (drop (i + 1) ss)
strided_axes-at axes ss i in_axes in_ss = rw (add-one, drop-cons axes i no_axis in_axes, drop-cons ss i 0 in_ss) refl

-- an axis of whole dims spans no more than the bulk
pub axes_from-short : (t : ℕ) (ds : List ℕ) (k : ℕ) → k < length ds
    → (get_or (axes_from t ds) k no_axis).step * (get_or (axes_from t ds) k no_axis).size ≤ t * bulk_of ds
axes_from-short t [] k within = absurd (omega arith)
axes_from-short t (d ∷ ds) zero within =
    let first : d ≤ max 1 d = omega arith in
    mul-le-mul_left t (omega (arith, mul-le-mul first (one-le-bulk_of ds)))
axes_from-short t (d ∷ ds) (suc k) within =
    let first : d ≤ max 1 d = omega arith in
    let factor : d * bulk_of ds ≤ max 1 d * bulk_of ds = mul-le-mul_right (bulk_of ds) first in
    let rest = axes_from-short (t * d) ds k (omega arith) in
    let whole : t * (d * bulk_of ds) ≤ t * (max 1 d * bulk_of ds) = mul-le-mul_left t factor in
    let same : t * d * bulk_of ds ≡ t * (d * bulk_of ds) = grind arith in
    omega (arith, rest, whole, same)

pub length-axes_from : (t : ℕ) (ds : List ℕ) → length (axes_from t ds) ≡ length ds
length-axes_from t [] = refl
length-axes_from t (d ∷ ds) = omega (arith, length-axes_from (t * d) ds)

-- the axes of whole dims go along them, and add up to the place
pub are_along-from : (t : ℕ) (ds : List ℕ) → are_along (axes_from t ds) ds ≡ true
are_along-from t [] = refl
are_along-from t (d ∷ ds) =
    and_from (nat_eq d d && true) _ (and_from (nat_eq d d) true (eq-eqb d d refl) refl) (are_along-from (t * d) ds)

pub by_steps-from : (t : ℕ) (ds is : List ℕ) → by_steps (axes_from t ds) is ≡ place_by t ds is
by_steps-from t [] is = refl
by_steps-from t (d ∷ ds) [] = refl
by_steps-from t (d ∷ ds) (i ∷ is) = ap (λ n. i * t + n) (by_steps-from (t * d) ds is)

-- an axis that goes along a dimension
pub record IsAlong (a : Axis) (d : ℕ) : Type 0 where
  pub size : a.size ≡ d
  pub rises : a.reversed ≡ false

pub along-first : (a : Axis) (axes : List Axis) (d : ℕ) (ds : List ℕ) → are_along (a ∷ axes) (d ∷ ds) ≡ true
    → IsAlong a d × (are_along axes ds ≡ true)
along-first a axes d ds along =
    let parts = and_parts (nat_eq a.size d && not a.reversed) (are_along axes ds) along in
    let first = and_parts (nat_eq a.size d) (not a.reversed) parts.0 in
    (record { size = eqb-true a.size d first.0; rises = not-true a.reversed first.1 }, parts.1)

pub length-along : (axes : List Axis) (ds : List ℕ) → are_along axes ds ≡ true → length axes ≡ length ds
length-along [] [] along = refl
length-along [] (d ∷ ds) along = (cc)
length-along (a ∷ axes) [] along = (cc)
length-along (a ∷ axes) (d ∷ ds) along = omega (arith, length-along axes ds (along-first a axes d ds along).1)

pub along-at : (axes : List Axis) (ds : List ℕ) (k : ℕ) → are_along axes ds ≡ true → k < length ds
    → IsAlong (get_or axes k no_axis) (get_or ds k 0)
along-at [] [] k along within = absurd (omega arith)
along-at [] (d ∷ ds) k along within = (cc)
along-at (a ∷ axes) [] k along within = absurd (omega arith)
along-at (a ∷ axes) (d ∷ ds) zero along within = (along-first a axes d ds along).0
along-at (a ∷ axes) (d ∷ ds) (suc k) along within = along-at axes ds k (along-first a axes d ds along).1 (omega arith)

-- a view along dims has their places, and reaches each by the steps of its index list
pub view_size-along : (axes : List Axis) (ds : List ℕ) → are_along axes ds ≡ true → view_size axes ≡ size_of ds
view_size-along [] [] along = refl
view_size-along [] (d ∷ ds) along = (cc)
view_size-along (a ∷ axes) [] along = (cc)
view_size-along (a ∷ axes) (d ∷ ds) along =
    let parts = along-first a axes d ds along in
    rw (parts.0.size, view_size-along axes ds parts.1) refl

-- the steps of an index along an axis that rises
pub reached-forward : (a : Axis) (axes : List Axis) (d p : ℕ) → IsAlong a d
    → reached 0 (a ∷ axes) p ≡ reached 0 axes (p / d) + p % d * a.step
reached-forward a axes d p along = rw (along.size, along.rises) refl

pub reached-along : (axes : List Axis) (ds : List ℕ) (p : ℕ) → are_along axes ds ≡ true
    → reached 0 axes p ≡ by_steps axes (index_of ds p)
reached-along [] [] p along = refl
reached-along [] (d ∷ ds) p along = (cc)
reached-along (a ∷ axes) [] p along = (cc)
reached-along (a ∷ axes) (d ∷ ds) p along =
    let parts = along-first a axes d ds along in
    omega (arith, reached-forward a axes d p parts.0, reached-along axes ds (p / d) parts.1)
