-- What a convolution is: a fold over the places of its kernel, and what lies under these.
use Rattle.std.proofs.Common.{◌≡◌, ℕ, ℤ, pos, ◌+ℤ◌, ◌*ℤ◌, ◌+◌, ◌-◌, ◌<◌, List, [], length, map, fold}
use Rattle.std.proofs.Common.{get_or, Ok, refl, ap, sym, subst, ◌∙◌, arith}
use Rattle.std.specs.List.{range_with_len}
use Rattle.std.specs.Result.{result_unwrap_or}
use Rattle.std.proofs.lemmas.Simd.{map-map}
use Rattle.tensor_shape.specs.Index.{size_of, IsIndexOf, place, index_of}
use Rattle.tensor_shape.specs.Legal.{widest}
use Rattle.tensor_shape.specs.Wrap.{wrap}
use Rattle.tensor_shape.proofs.Places.{IsIndexOf-index_of, place-below-size_of}
use Rattle.tensor_terms.specs.Convolution.{window_index, window_dims, convolved, convolved_dims}
use Rattle.tensor_terms.proofs.Known.{IsConvolution, convolution-known}
use Rattle.tensor_terms.proofs.Moved.{get_or-IsIndexOf}
use Rattle.tensor_terms.proofs.OtherAxes.{get_or-are_axes}
use Rattle.tensor_values.proofs.Runs.{map-shifted}
use Rattle.tensor_terms.proofs.SameValues.{Agree}
use Rattle.tensor_terms.proofs.UnderKernel.{length-window_dims, get_or-fit_along}
use Rattle.tensor_terms.proofs.UnderKernel.{get_or-window_dims-at, IsIndexOf-window_index}

-- the product that a convolution takes at a place of the kernel
abbrev pub product_under : List ℕ → List ℕ → (List ℕ → ℤ) → (List ℕ → ℤ) → List ℕ → ℕ → ℤ
product_under axes ks a kernel is q = a (window_index axes (index_of ks q) is) *ℤ kernel (index_of ks q)

pub convolved-fold : (axes ks : List ℕ) (a kernel : List ℕ → ℤ) (is : List ℕ)
    → convolved axes ks a kernel is
    ≡ wrap (fold ◌+ℤ◌ (pos 0) (map (product_under axes ks a kernel is)
    (range_with_len 0 (size_of ks))))
convolved-fold axes ks a kernel is =
    ap (λ l. wrap (fold ◌+ℤ◌ (pos 0) l))
    (map-map (λ (js : List ℕ). a (window_index axes js is) *ℤ kernel js) (λ (q : ℕ). index_of ks q)
    (range_with_len 0 (size_of ks)))

-- convolutions of operands with the same values
pub convolved-other : (axes ds ks : List ℕ) (f g h k : List ℕ → ℤ) → IsConvolution axes ds ks
    → Agree ds f g → Agree ks h k
    → Agree (window_dims axes ks ds) (convolved axes ks f h) (convolved axes ks g k)
convolved-other axes ds ks f g h k known same_f same_h is index =
    let each : (q : ℕ) → q < size_of ks
    → product_under axes ks f h is q ≡ product_under axes ks g k is q =
    λ q below.
    let inner = IsIndexOf-index_of ks q below in
    let left = same_f (window_index axes (index_of ks q) is)
    (IsIndexOf-window_index axes ks ds (index_of ks q) is known.legal known.fits index inner) in
    let right = same_h (index_of ks q) inner in
    cc (left, right) in
    convolved-fold axes ks f h is
    ∙ ap (λ l. wrap (fold ◌+ℤ◌ (pos 0) l))
    (map-shifted (product_under axes ks f h is) (product_under axes ks g k is) 0 0 (size_of ks)
    (λ q below. each (0 + q) (omega arith)))
    ∙ sym (convolved-fold axes ks g k is)

-- index lists under the kernel, by the dims of the result
module _ (axes ds ks rs : List ℕ) (dims : convolved_dims widest axes ds ks ≡ Ok rs) where
  pub known : IsConvolution axes ds ks
  known = convolution-known axes ds ks (rw dims refl)

  pub convolved-shape : window_dims axes ks ds ≡ rs
  convolved-shape = ap (λ r. result_unwrap_or r []) (sym known.dims ∙ dims)

  pub length-result : length rs ≡ length ds
  length-result = sym (ap length convolved-shape) ∙ length-window_dims axes ks ds

  module _ (x q : ℕ) (row : x < size_of rs) (value : q < size_of ks) where
    pub IsIndexOf-under : IsIndexOf ds (window_index axes (index_of ks q) (index_of rs x))
    IsIndexOf-under =
        IsIndexOf-window_index axes ks ds (index_of ks q) (index_of rs x) known.legal known.fits
        (subst (λ es. IsIndexOf es (index_of rs x)) (sym convolved-shape)
        (IsIndexOf-index_of rs x row)) (IsIndexOf-index_of ks q value)

    -- a number with that of the kernel on top is below its dimension
    pub sum-under : (j : ℕ) → j < length axes
        → get_or (index_of rs x) (get_or axes j 0) 0 + get_or (index_of ks q) j 0
        < get_or ds (get_or axes j 0) 0
    sum-under j within =
        let axis : ℕ = get_or axes j 0 in
        let size = get_or-fit_along axes ks ds j known.fits known.ranks within in
        let below = get_or-are_axes (length ds) j axes known.legal within in
        let top = get_or-IsIndexOf ks (index_of ks q) j (IsIndexOf-index_of ks q value)
        (omega (arith, known.ranks)) in
        let first = get_or-IsIndexOf rs (index_of rs x) axis (IsIndexOf-index_of rs x row)
        (omega (arith, length-result)) in
        let span : get_or rs axis 0 ≡ get_or ds axis 0 - get_or ks j 0 + 1 =
        ap (λ es. get_or es axis 0) (sym convolved-shape)
        ∙ get_or-window_dims-at (length ds) axes ks ds j refl known.legal known.ranks within in
        omega (arith, size, top, first, span)

    -- what lies under a kernel is one of the operand's values
    pub under-below : place ds (window_index axes (index_of ks q) (index_of rs x)) < size_of ds
    under-below = place-below-size_of ds _ IsIndexOf-under
