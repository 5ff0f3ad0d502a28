-- Places by the steps of axes: those of strides, of strides at some axes, and under a kernel.
use Rattle.std.proofs.Common.{◌≡◌, ℕ, zero, suc, ◌+◌, ◌-◌, ◌*◌, ◌/◌, ◌%◌, ◌<◌, ◌≤◌, List, []}
use Rattle.std.proofs.Common.{◌∷◌, length, get_or, set, drop, true, refl, ap, sym, ◌∙◌, arith}
use Rattle.std.proofs.Math.Nat.{mul-le-mul_right}
use Rattle.tensor_shape.specs.Index.{size_of, IsIndexOf, strides_from, place_by, place, index_of}
use Rattle.tensor_shape.specs.Legal.{bulk_of}
use Rattle.tensor_shape.proofs.Places.{IsIndexOf-index_of}
use Rattle.tensor_views.specs.Forward.{no_axis}
use Rattle.tensor_views.specs.Axes.{axes_from, by_steps}
use Rattle.tensor_views.specs.private.MovedAxes.{shuffled_axes}
use Rattle.tensor_terms.specs.Convolution.{window_index}
use Rattle.tensor_terms.specs.Movement.{shuffled_dims}
use Rattle.tensor_views.specs.Offsets.{offset_of}
use Rattle.tensor_terms.specs.Reduction.{are_axes}
use Rattle.tensor_views.specs.Stepped.{stepped}
use Rattle.tensor_terms.specs.Merged.{dims_at}
use Rattle.tensor_views.proofs.AxisLists.{axes_from-short, are_along-from, along-at}
use Rattle.tensor_terms.proofs.OtherAxes.{are_axes-first}
use Rattle.tensor_terms.proofs.UnderKernel.{length-window_index, get_or-window_index}
use Rattle.tensor_views.proofs.Steps.{drop-before}
use Rattle.tensor_views.proofs.MergedPlaces.{place-scattered}

pub length-strides_from : (t : ℕ) (ds : List ℕ) → length (strides_from t ds) ≡ length ds
length-strides_from t [] = refl
length-strides_from t (d ∷ ds) = ap suc (length-strides_from (t * d) ds)

-- by its strides an index list has its place
pub stepped-strides_from : (t : ℕ) (ds is : List ℕ) → stepped (strides_from t ds) is ≡ place_by t ds is
stepped-strides_from t [] is = refl
stepped-strides_from t (d ∷ ds) [] = refl
stepped-strides_from t (d ∷ ds) (i ∷ is) = ap (λ n. i * t + n) (stepped-strides_from (t * d) ds is)

-- strides are the steps of whole dims
step-axes_from : (t : ℕ) (ds : List ℕ) (s : ℕ)
    → (get_or (axes_from t ds) s no_axis).step ≡ get_or (strides_from t ds) s 0
step-axes_from t [] s = refl
step-axes_from t (d ∷ ds) zero = refl
step-axes_from t (d ∷ ds) (suc s) = step-axes_from (t * d) ds s

by_steps-stepped : (t : ℕ) (ds order is : List ℕ) → by_steps (shuffled_axes (axes_from t ds) order) is
    ≡ stepped (shuffled_dims (strides_from t ds) order) is
by_steps-stepped t ds [] is = refl
by_steps-stepped t ds (s ∷ ss) [] = refl
by_steps-stepped t ds (s ∷ ss) (i ∷ is) =
    let here : i * (get_or (axes_from t ds) s no_axis).step ≡ i * get_or (strides_from t ds) s 0 =
    ap (λ n. i * n) (step-axes_from t ds s) in
    omega (arith, here, by_steps-stepped t ds ss is)

pub offset_of-stepped : (axes ds : List ℕ) (p : ℕ) → are_axes (length ds) axes ≡ true
    → offset_of axes ds p
    ≡ stepped (shuffled_dims (strides_from 1 ds) axes) (index_of (dims_at axes ds) p)
offset_of-stepped axes ds p once =
    place-scattered ds axes (index_of (dims_at axes ds) p) once
    ∙ by_steps-stepped 1 ds axes (index_of (dims_at axes ds) p)

-- an axis spans no more places than its dims have
pub strides_from-short : (ds : List ℕ) (k : ℕ) → k < length ds
    → get_or ds k 0 * get_or (strides_from 1 ds) k 0 ≤ bulk_of ds
strides_from-short ds k within =
    let short = axes_from-short 1 ds k within in
    let size = (along-at (axes_from 1 ds) ds k (are_along-from 1 ds) within).size in
    let span : (get_or (axes_from 1 ds) k no_axis).step * (get_or (axes_from 1 ds) k no_axis).size
    ≡ get_or (strides_from 1 ds) k 0 * get_or ds k 0 = rw (step-axes_from 1 ds k, size) refl in
    let swapped : get_or ds k 0 * get_or (strides_from 1 ds) k 0
    ≡ get_or (strides_from 1 ds) k 0 * get_or ds k 0 = grind arith in
    omega (arith, short, span, swapped)

-- an index list of short axes has a small sum
pub stepped-le : (ts ds is : List ℕ) (limit : ℕ) → IsIndexOf ds is
    → ((k : ℕ) → k < length ds → get_or ds k 0 * get_or ts k 0 ≤ limit)
    → stepped ts is ≤ length ds * limit
stepped-le [] ds is limit index short = omega arith
stepped-le (t ∷ ts) [] [] limit index short = omega arith
stepped-le (t ∷ ts) [] (i ∷ is) limit index short = absurd index
stepped-le (t ∷ ts) (d ∷ ds) [] limit index short = absurd index
stepped-le (t ∷ ts) (d ∷ ds) (i ∷ is) limit index short =
    let first : i ≤ d = omega (arith, index.0) in
    let here : i * t ≤ d * t = mul-le-mul_right t first in
    let rest : stepped ts is ≤ length ds * limit =
    stepped-le ts ds is limit index.1 (λ k within. short (suc k) (omega arith)) in
    omega (arith, here, short 0 (omega arith), rest, next (length ds))
  where
    next : (n : ℕ) → suc n * limit ≡ limit + n * limit
    next n = grind arith

-- and of those from the k-th on
pub stepped-drop-le : (ts ds : List ℕ) (k p limit : ℕ) → length ts ≡ length ds
    → p < size_of (drop k ds)
    → ((j : ℕ) → j < length ds → get_or ds j 0 * get_or ts j 0 ≤ limit)
    → stepped (drop k ts) (index_of (drop k ds) p) ≤ length ds * limit
stepped-drop-le ts ds zero p limit long below short =
    stepped-le ts ds (index_of ds p) limit (IsIndexOf-index_of ds p below) short
stepped-drop-le [] ds (suc k) p limit long below short = omega arith
stepped-drop-le (t ∷ ts) [] (suc k) p limit long below short = absurd (omega arith)
stepped-drop-le (t ∷ ts) (d ∷ ds) (suc k) p limit long below short =
    let rest : stepped (drop k ts) (index_of (drop k ds) p) ≤ length ds * limit =
    stepped-drop-le ts ds k p limit (omega arith) below (λ j within. short (suc j) (omega arith)) in
    omega (arith, rest, next (length ds))
  where
    next : (n : ℕ) → suc n * limit ≡ limit + n * limit
    next n = grind arith

-- the axes from one of them on, with that one first
module _ (ts ds : List ℕ) (k : ℕ) (some : 0 < k) (within : k ≤ length ds)
    (long : length ts ≡ length ds) where
  pub size_of-before : size_of (drop (k - 1) ds) ≡ size_of (drop k ds) * get_or ds (k - 1) 0
  size_of-before = rw (drop-before ds k some within) swapped
    where
      swapped : get_or ds (k - 1) 0 * size_of (drop k ds) ≡ size_of (drop k ds) * get_or ds (k - 1) 0
      swapped = grind arith

  pub stepped-before : (p : ℕ) → stepped (drop (k - 1) ts) (index_of (drop (k - 1) ds) p)
      ≡ stepped (drop k ts) (index_of (drop k ds) (p / get_or ds (k - 1) 0))
      + p % get_or ds (k - 1) 0 * get_or ts (k - 1) 0
  stepped-before p =
      rw (drop-before ts k some (omega arith), drop-before ds k some within) (omega arith)

-- a number more adds its steps
stepped-set : (ts js : List ℕ) (x i j : ℕ) → x < length js → length ts ≡ length js
    → get_or js x 0 ≡ i → stepped ts (set js x (i + j)) ≡ stepped ts js + j * get_or ts x 0
stepped-set ts [] x i j within long here = absurd (omega arith)
stepped-set [] (n ∷ js) x i j within long here = absurd (omega arith)
stepped-set (t ∷ ts) (n ∷ js) zero i j within long here =
    let sum : (i + j) * t ≡ i * t + j * t = grind arith in
    let same : n * t ≡ i * t = ap (λ m. m * t) here in
    omega (arith, sum, same)
stepped-set (t ∷ ts) (n ∷ js) (suc x) i j within long here =
    omega (arith, stepped-set ts js x i j (omega arith) (omega arith) here)

-- the steps of an index list with another one on top are those of both
pub stepped-window_index : (axes ts js is : List ℕ) → are_axes (length is) axes ≡ true
    → length ts ≡ length is
    → stepped ts (window_index axes js is) ≡ stepped ts is + stepped (shuffled_dims ts axes) js
stepped-window_index [] ts js is once long = omega arith
stepped-window_index (x ∷ xs) ts [] is once long = omega arith
stepped-window_index (x ∷ xs) ts (j ∷ js) is once long =
    let axis = are_axes-first (length is) x xs once in
    let full : length (window_index xs js is) ≡ length is = length-window_index xs js is in
    let more = stepped-set ts (window_index xs js is) x (get_or is x 0) j (omega (arith, axis.below))
    (omega arith) (get_or-window_index xs js is x axis.alone) in
    omega (arith, more, stepped-window_index xs ts js is axis.rest long)

-- and so is its place
pub place-window_index : (axes ds js is : List ℕ) → are_axes (length is) axes ≡ true
    → length ds ≡ length is
    → place ds (window_index axes js is)
    ≡ stepped (strides_from 1 ds) is + stepped (shuffled_dims (strides_from 1 ds) axes) js
place-window_index axes ds js is once long =
    sym (stepped-strides_from 1 ds (window_index axes js is))
    ∙ stepped-window_index axes (strides_from 1 ds) js is once (length-strides_from 1 ds ∙ long)
