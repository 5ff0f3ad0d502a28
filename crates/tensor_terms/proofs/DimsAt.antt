-- How many elements the dims at some axes have.
use Rattle.std.proofs.Common.{◌≡◌, ℕ, zero, suc, ◌+◌, ◌*◌, ◌<◌, ◌≤◌, max, List, [], ◌∷◌}
use Rattle.std.proofs.Common.{length, get_or, set, true}
use Rattle.std.proofs.Common.{refl, ap, sym, ◌∙◌, arith}
use Rattle.std.proofs.lemmas.List.{length-set}
use Rattle.std.proofs.Math.Nat.{mul-le-mul_left}
use Rattle.tensor_shape.specs.Index.{size_of}
use Rattle.tensor_shape.specs.Legal.{bulk_of}
use Rattle.tensor_shape.proofs.Sizes.{one-le-bulk_of, size_of-le-bulk_of}
use Rattle.tensor_terms.specs.Reduction.{are_axes}
use Rattle.tensor_terms.specs.Merged.{dims_at}
use Rattle.tensor_terms.proofs.OtherAxes.{are_axes-first}
use Rattle.tensor_values.proofs.Factors.{some_factor}
use Rattle.tensor_values.proofs.Factors.{some_size}
use Rattle.tensor_terms.proofs.Weaving.{shuffled_dims-set}

-- a dimension that becomes 1 goes as a factor
bulk_of-set : (ds : List ℕ) (s : ℕ) → s < length ds
    → max 1 (get_or ds s 0) * bulk_of (set ds s 1) ≡ bulk_of ds
bulk_of-set [] s within = absurd (omega arith)
bulk_of-set (d ∷ ds) zero within = ap (λ n. max 1 d * n) (omega arith)
bulk_of-set (d ∷ ds) (suc s) within =
    swapped (max 1 (get_or ds s 0)) (max 1 d) (bulk_of (set ds s 1))
    ∙ ap (λ n. max 1 d * n) (bulk_of-set ds s (omega arith))
  where
    swapped : (a b n : ℕ) → a * (b * n) ≡ b * (a * n)
    swapped a b n = grind arith

-- some of the dims have no more elements than the bulk
bulk_of-dims_at-le : (rank : ℕ) (axes ds : List ℕ) → rank ≡ length ds → are_axes rank axes ≡ true
    → bulk_of (dims_at axes ds) ≤ bulk_of ds
bulk_of-dims_at-le rank [] ds same once = one-le-bulk_of ds
bulk_of-dims_at-le rank (s ∷ ss) ds same once =
    let axis = are_axes-first rank s ss once in
    let within : s < length ds = omega (arith, axis.below) in
    let less : bulk_of (dims_at ss (set ds s 1)) ≤ bulk_of (set ds s 1) =
    bulk_of-dims_at-le rank ss (set ds s 1) (same ∙ sym (length-set ds s 1)) axis.rest in
    let kept : bulk_of (dims_at ss (set ds s 1)) ≡ bulk_of (dims_at ss ds) =
    ap bulk_of (shuffled_dims-set ds ss s 1 axis.alone) in
    let smaller : bulk_of (dims_at ss ds) ≤ bulk_of (set ds s 1) = omega arith in
    omega (arith, mul-le-mul_left (max 1 (get_or ds s 0)) smaller, bulk_of-set ds s within)

pub size_of-dims_at-le : (axes ds : List ℕ) → are_axes (length ds) axes ≡ true
    → size_of (dims_at axes ds) ≤ bulk_of ds
size_of-dims_at-le axes ds once =
    omega (
      arith,
      size_of-le-bulk_of (dims_at axes ds),
      bulk_of-dims_at-le
          (length ds) axes ds refl once,
    )

-- where all dims have elements, so have some of them
some-dim : (ds : List ℕ) (s : ℕ) → s < length ds → 0 < size_of ds → 0 < get_or ds s 0
some-dim [] s within some = absurd (omega arith)
some-dim (d ∷ ds) zero within some = some_size d (size_of ds) 0 some
some-dim (d ∷ ds) (suc s) within some =
    some-dim ds s (omega arith) (some_factor d (size_of ds) 0 some)

pub some-dims_at : (axes ds : List ℕ) → are_axes (length ds) axes ≡ true → 0 < size_of ds
    → 0 < size_of (dims_at axes ds)
some-dims_at [] ds once some = omega arith
some-dims_at (s ∷ ss) ds once some =
    let axis = are_axes-first (length ds) s ss once in
    let first : 0 < get_or ds s 0 = some-dim ds s axis.below some in
    let next : 0 + 1 ≤ size_of (dims_at ss ds) = omega (arith, some-dims_at ss ds axis.rest some) in
    omega (arith, first, mul-le-mul_left (get_or ds s 0) next)
