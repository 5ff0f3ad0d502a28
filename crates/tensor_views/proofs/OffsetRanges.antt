-- Offsets of axes in two lists, one after the other, and of axes that lie next to each other.
use Rattle.std.proofs.Common.{◌≡◌, ℕ, zero, suc, ◌+◌, ◌-◌, ◌*◌, ◌/◌, ◌%◌, ◌<◌, ◌≤◌, List, [], ◌∷◌}
use Rattle.std.proofs.Common.{◌++◌, length, get_or, take, true}
use Rattle.std.proofs.Common.{refl, ap, sym, ◌∙◌, arith, add-one}
use Rattle.std.specs.List.{range_with_len}
use Rattle.std.proofs.lemmas.List.{length-map, map-append}
use Rattle.std.proofs.lemmas.Nat.{mul-add-lt}
use Rattle.std.proofs.Math.Nat.{mod-lt, mod-add-div, mod-eq_of_lt}
use Rattle.std.proofs.Math.Nat.{add-mul-mod_self_left}
use Rattle.std.proofs.Math.Seq.{take-suc}
use Rattle.tensor_shape.specs.Index.{size_of, place, place_by, index_of}
use Rattle.tensor_shape.proofs.Places.{place-cons, place_by-scaled}
use Rattle.tensor_views.specs.Forward.{forward, no_axis}
use Rattle.tensor_views.specs.Axes.{axes_from, by_steps}
use Rattle.tensor_views.specs.private.MovedAxes.{shuffled_axes}
use Rattle.tensor_views.specs.Offsets.{offset_of}
use Rattle.tensor_terms.specs.Reduction.{are_axes}
use Rattle.tensor_terms.specs.Merged.{dims_at}
use Rattle.tensor_views.proofs.AxisLists.{by_steps-from}
use Rattle.tensor_terms.proofs.OtherAxes.{are_axes-first}
use Rattle.tensor_views.proofs.Steps.{get_or-axes_from}
use Rattle.tensor_values.proofs.Factors.{some_size}
use Rattle.tensor_views.proofs.MergedPlaces.{place-scattered, by_steps-append}
use Rattle.tensor_terms.proofs.Splits.{are_axes-range, size_of-append, index_of-append, length-index_of}

-- the first of axes after axes
are_axes-before : (rank : ℕ) (xs ys : List ℕ) → are_axes rank (xs ++ ys) ≡ true
    → are_axes rank ys ≡ true
are_axes-before rank [] ys once = once
are_axes-before rank (x ∷ xs) ys once =
    are_axes-before rank xs ys (are_axes-first rank x (xs ++ ys) once).rest

-- the offset of axes after axes
pub offset_of-append : (xs ys ds : List ℕ) (p : ℕ) → are_axes (length ds) (xs ++ ys) ≡ true
    → are_axes (length ds) xs ≡ true
    → offset_of (xs ++ ys) ds p ≡ offset_of xs ds p + offset_of ys ds (p / size_of (dims_at xs ds))
offset_of-append xs ys ds p once first =
    let q : ℕ = p / size_of (dims_at xs ds) in
    let js : List ℕ = index_of (dims_at xs ds) p in
    let is : List ℕ = index_of (dims_at ys ds) q in
    let index : index_of (dims_at (xs ++ ys) ds) p ≡ js ++ is =
    ap (λ es. index_of es p) (map-append (λ s. get_or ds s 0) xs ys)
    ∙ index_of-append (dims_at xs ds) (dims_at ys ds) p in
    let long : length js ≡ length xs = length-index_of (dims_at xs ds) p
    ∙ length-map xs (λ s. get_or ds s 0) in
    let whole : offset_of (xs ++ ys) ds p ≡ by_steps (shuffled_axes (axes_from 1 ds) (xs ++ ys))
    (js ++ is) =
    place-scattered ds (xs ++ ys) (index_of (dims_at (xs ++ ys) ds) p) once
    ∙ ap (by_steps (shuffled_axes (axes_from 1 ds) (xs ++ ys))) index in
    let steps = by_steps-append (axes_from 1 ds) xs ys js is long in
    let one = place-scattered ds xs js first in
    let two = place-scattered ds ys is (are_axes-before (length ds) xs ys once) in
    omega (arith, whole, steps, one, two)

swapped : (m n : ℕ) → m * n ≡ n * m
swapped m n = grind arith

-- a remainder by a product: that by the first factor, and that of the quotient by the second
mod-mul : (p d n : ℕ) → 0 < d → 0 < n → p % d + d * (p / d % n) ≡ p % (d * n)
mod-mul p d n some_d some_n =
    let r : ℕ = p / d % n in
    let t : ℕ = p / d / n in
    let small : r * d + p % d < d * n =
    mul-add-lt r d (p % d) n (mod-lt (p / d) some_n) (mod-lt p some_d) in
    let rest : p % d + d * r < d * n = omega (arith, swapped r d) in
    let quotient : d * (r + n * t) ≡ d * (p / d) = ap (λ q. d * q) (mod-add-div (p / d) n) in
    let at : p ≡ p % d + d * r + d * n * t =
    omega (arith, mod-add-div p d, quotient, regroup r t) in
    sym (ap (λ m. m % (d * n)) at ∙ add-mul-mod_self_left (p % d + d * r) (d * n) t
    ∙ mod-eq_of_lt rest)
  where
    regroup : (x y : ℕ) → d * (x + n * y) ≡ d * x + d * n * y
    regroup x y = grind arith

-- the place of a place's index list, where that may lie past the dims
place-index_of-mod : (ds : List ℕ) (p : ℕ) → 0 < size_of ds
    → place ds (index_of ds p) ≡ p % size_of ds
place-index_of-mod [] p some = mod-one p
  where
    mod-one : (n : ℕ) → 0 ≡ n % 1
    mod-one n = let below : n % 1 < 1 = mod-lt n (omega arith) in omega arith
place-index_of-mod (d ∷ ds) p some =
    let some_d : 0 < d = some_size d (size_of ds) 0 some in
    let some_n : 0 < size_of ds =
    some_size (size_of ds) d 0 (omega (arith, swapped d (size_of ds))) in
    place-cons d (p % d) ds (index_of ds (p / d))
    ∙ ap (λ q. p % d + d * q) (place-index_of-mod ds (p / d) some_n)
    ∙ mod-mul p d (size_of ds) some_d some_n

-- axes next to each other, as axes of dims of their own
shuffled_axes-range : (ds : List ℕ) (a n : ℕ) → a + n ≤ length ds
    → shuffled_axes (axes_from 1 ds) (range_with_len a n) ≡ axes_from (size_of (take a ds))
    (dims_at (range_with_len a n) ds)
shuffled_axes-range ds a zero within = refl
shuffled_axes-range ds a (suc n) within =
    let here : get_or (axes_from 1 ds) a no_axis ≡ forward (get_or ds a 0) (size_of (take a ds)) =
    get_or-axes_from 1 ds a (omega arith) ∙ ap (forward (get_or ds a 0)) (omega arith) in
    let more : size_of (take (a + 1) ds) ≡ size_of (take a ds) * get_or ds a 0 =
    ap size_of (rw add-one (take-suc ds a 0 (omega arith)))
    ∙ size_of-append (take a ds) (get_or ds a 0 ∷ []) ∙ omega arith in
    let rest : shuffled_axes (axes_from 1 ds) (range_with_len (a + 1) n)
    ≡ axes_from (size_of (take a ds) * get_or ds a 0) (dims_at (range_with_len (a + 1) n) ds) =
    shuffled_axes-range ds (a + 1) n (omega arith)
    ∙ ap (λ t. axes_from t (dims_at (range_with_len (a + 1) n) ds)) more in
    (cc)

-- the offset along axes next to each other
pub offset_of-range : (ds : List ℕ) (a n p : ℕ) → a + n ≤ length ds
    → 0 < size_of (dims_at (range_with_len a n) ds)
    → offset_of (range_with_len a n) ds p ≡ p % size_of (dims_at (range_with_len a n) ds) * size_of
    (take a ds)
offset_of-range ds a n p within some =
    let es : List ℕ = dims_at (range_with_len a n) ds in
    let t : ℕ = size_of (take a ds) in
    place-scattered ds (range_with_len a n) (index_of es p) (are_axes-range (length ds) a n within)
    ∙ ap (λ axes. by_steps axes (index_of es p)) (shuffled_axes-range ds a n within)
    ∙ by_steps-from t es (index_of es p)
    ∙ ap (λ s. place_by s es (index_of es p)) (omega arith)
    ∙ place_by-scaled t 1 es (index_of es p)
    ∙ ap (λ q. t * q) (place-index_of-mod es p some)
    ∙ swapped t (p % size_of es)
