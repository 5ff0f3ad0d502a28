-- Convolutions as products of rows.
use Rattle.std.proofs.Common.{◌≡◌, ℕ, ◌+◌, ◌*◌, ◌/◌, ◌%◌, ◌<◌, ◌≤◌, List, [], ◌∷◌, length, get_or, drop, true, Ok}
use Rattle.std.proofs.Common.{refl, ap, sym, subst, ◌∙◌, arith}
use Rattle.std.proofs.lemmas.List.{get_or-map}
use Rattle.std.proofs.Math.Nat.{mul-le-mul_right}
use Rattle.tensor_shape.specs.Index.{size_of, strides_from, place, index_of}
use Rattle.tensor_shape.specs.Legal.{bulk_of, widest}
use Rattle.tensor_shape.proofs.Places.{div-below}
use Rattle.tensor_terms.specs.Convolution.{window_index, convolved_dims}
use Rattle.tensor_terms.specs.Movement.{shuffled_dims}
use Rattle.tensor_terms.specs.Reduction.{are_axes}
use Rattle.tensor_views.specs.Stepped.{stepped}
use Rattle.tensor_ops.specs.private.FirstRun.{run_axes, run_width}
use Rattle.tensor_terms.proofs.Known.{IsConvolution}
use Rattle.tensor_terms.proofs.OtherAxes.{get_or-are_axes}
use Rattle.tensor_terms.proofs.UnderKernel.{get_or-window_dims-le, get_or-fit_along}
use Rattle.tensor_terms.proofs.Splits.{length-index_of}
use Rattle.tensor_views.proofs.Stepping.{strides_from-short, place-window_index}
use Rattle.tensor_terms.proofs.Convolutions.{known, convolved-shape, length-result, under-below}

-- count numbers are the steps of all index lists
pub record HasSteps (count : ℕ) (number : ℕ → ℕ) (steps sizes : List ℕ) : Type 0 where
  pub len : count ≡ size_of sizes
  pub each : (p : ℕ) → p < size_of sizes → number p ≡ stepped steps (index_of sizes p)

-- runs have all places
pub size_of-runs : (rs : List ℕ) → size_of (drop (run_axes rs) rs) * run_width rs ≡ size_of rs
size_of-runs [] = refl
size_of-runs (r ∷ rs) = grind arith

-- the steps of a place are those of its run and how far on it lies
pub stepped-runs : (ds rs : List ℕ) (x : ℕ) → length rs ≡ length ds → x < size_of rs
    → stepped (drop (run_axes rs) (strides_from 1 ds))
    (index_of (drop (run_axes rs) rs) (x / run_width rs)) + x % run_width rs
    ≡ stepped (strides_from 1 ds) (index_of rs x)
stepped-runs [] [] x same below = omega arith
stepped-runs [] (r ∷ rs) x same below = absurd (omega arith)
stepped-runs (d ∷ ds) [] x same below = absurd (omega arith)
stepped-runs (d ∷ ds) (r ∷ rs) x same below = omega arith

module _ (axes ds ks rs : List ℕ) (dims : convolved_dims widest axes ds ks ≡ Ok rs) where
  convolution : IsConvolution axes ds ks
  convolution = known axes ds ks rs dims

  long_result : length rs ≡ length ds
  long_result = length-result axes ds ks rs dims

  -- a table of the steps of runs has those of their places
  pub runs-steps : (starts on along : List ℕ) (first width : ℕ) → on ≡ strides_from 1 ds
      → along ≡ rs → first ≡ run_axes rs → width ≡ run_width rs
      → length starts ≡ size_of (drop first along)
      → ((p : ℕ) → p < size_of (drop first along)
      → get_or starts p 0 ≡ stepped (drop first on) (index_of (drop first along) p))
      → HasSteps (length starts * width) (λ x. get_or starts (x / width) 0 + x % width)
      (strides_from 1 ds) rs
  runs-steps starts on along first width is_on is_along axes_are width_is long each =
      let count : length starts ≡ size_of (drop (run_axes rs) rs) =
      rw (axes_are, is_along) at long in
      let numbers : (p : ℕ) → p < size_of (drop (run_axes rs) rs)
      → get_or starts p 0
      ≡ stepped (drop (run_axes rs) (strides_from 1 ds)) (index_of (drop (run_axes rs) rs) p) =
      rw (axes_are, is_along, is_on) at each in
      let whole = size_of-runs rs in
      record {
        len = ap (λ n. n * width) count
            ∙ ap (λ w. size_of (drop (run_axes rs) rs) * w) width_is ∙ whole;
        each = λ x below.
            let inside = (div-below (run_width rs) (size_of (drop (run_axes rs) rs)) x
            (grind (arith, whole, below))).1 in
            let here = numbers (x / run_width rs) inside in
            let both = stepped-runs ds rs x long_result below in
            rw width_is (omega (arith, here, both));
      }

  -- along each axis the result spans no more places than its operand, and so does the kernel
  pub result-short : (k : ℕ) → k < length rs
      → get_or rs k 0 * get_or (strides_from 1 ds) k 0 ≤ bulk_of ds
  result-short k within =
      let less = get_or-window_dims-le (length ds) axes ks ds k refl convolution.legal convolution.fits in
      let size : get_or rs k 0 ≤ get_or ds k 0 =
      subst (λ es. get_or es k 0 ≤ get_or ds k 0) (convolved-shape axes ds ks rs dims) less in
      omega (
        arith,
        mul-le-mul_right (get_or (strides_from 1 ds) k 0) size,
        strides_from-short ds k (omega (arith, long_result)),
      )

  pub kernel-short : (k : ℕ) → k < length ks
      → get_or ks k 0 * get_or (shuffled_dims (strides_from 1 ds) axes) k 0 ≤ bulk_of ds
  kernel-short k within =
      let inside : k < length axes = omega (arith, convolution.ranks) in
      let axis : ℕ = get_or axes k 0 in
      let size = (get_or-fit_along axes ks ds k convolution.fits convolution.ranks inside).1 in
      let below = get_or-are_axes (length ds) k axes convolution.legal inside in
      rw (get_or-map (λ s. get_or (strides_from 1 ds) s 0) axes k 0 0 inside)
      (omega (
        arith,
        mul-le-mul_right (get_or (strides_from 1 ds) axis 0) size,
        strides_from-short ds axis below,
      ))

  module _ (x q : ℕ) (row : x < size_of rs) (value : q < size_of ks)
      (m n : ℕ) (start offset : ℕ → ℕ)
      (rows : HasSteps m start (strides_from 1 ds) rs)
      (values : HasSteps n offset (shuffled_dims (strides_from 1 ds) axes) ks) where
    -- its place is what both have for it, added up
    pub sum_of_steps : start x + offset q
        ≡ place ds (window_index axes (index_of ks q) (index_of rs x))
    sum_of_steps =
        let long : length (index_of rs x) ≡ length ds = length-index_of rs x ∙ long_result in
        let once : are_axes (length (index_of rs x)) axes ≡ true =
        ap (λ n. are_axes n axes) long ∙ convolution.legal in
        let whole = place-window_index axes ds (index_of ks q) (index_of rs x) once (sym long) in
        omega (arith, whole, rows.each x row, values.each q value)

    pub sum_of_steps-below : start x + offset q < size_of ds
    sum_of_steps-below = omega (arith, sum_of_steps, under-below axes ds ks rs dims x q row value)
