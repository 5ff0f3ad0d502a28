-- Convolutions: sums of products of a kernel and the values under it.
use Rattle.std.specs.Prelude.{ℕ, ℤ, pos, ◌+ℤ◌, ◌*ℤ◌, ◌+◌, ◌-◌, List, ◌∷◌, length, map}
use Rattle.std.specs.Prelude.{slice_index, slice_set, nat_le, Bool, true, ◌&&◌}
use Rattle.std.specs.List.{fold}
use Rattle.tensor_shape.specs.Index.{size_of}
use Rattle.tensor_shape.specs.Wrap.{wrap}
use Rattle.tensor_shape.specs.declared.bounds.Bounds.{Bounds}
use Rattle.tensor_terms.specs.Contraction.{few_products}
use Rattle.tensor_terms.specs.Reduction.{are_axes}
use Rattle.tensor_terms.specs.Shaped.{Shaped, check, check_lengths}
use Rattle.tensor_terms.specs.Merged.{index_lists}
use Rattle.tensor_terms.specs.declared.fault.ExprFault.TheVariants.{OutOfRange}

-- the dims of the kernel's positions: along each axis of the kernel, the number of positions at
-- which it lies within the dims
abbrev pub window_dims : List ℕ → List ℕ → List ℕ → List ℕ
window_dims (x ∷ xs) (k ∷ ks) ds = slice_set (window_dims xs ks ds) x (slice_index ds x - k + 1)
window_dims axes ks ds = ds

-- whether each size of a kernel is at least 1 and at most the size of its axis
abbrev pub fit_along : List ℕ → List ℕ → List ℕ → Bool
fit_along (x ∷ xs) (k ∷ ks) ds = (nat_le 1 k && nat_le k (slice_index ds x)) && fit_along xs ks ds
fit_along axes ks ds = true

-- the index list with each number of a second list added at its axis
abbrev pub window_index : List ℕ → List ℕ → List ℕ → List ℕ
window_index (x ∷ xs) (j ∷ js) is = slice_set (window_index xs js is) x (slice_index is x + j)
window_index axes js is = is

-- the result dims of a convolution within bounds, or the fault of the first check that fails
abbrev pub convolved_dims : Bounds → List ℕ → List ℕ → List ℕ → Shaped
convolved_dims bounds axes ds ks =
    check (are_axes (length ds) axes) OutOfRange (check_lengths ks axes
    (check (fit_along axes ks ds) OutOfRange
    (few_products bounds (size_of ks) (window_dims axes ks ds))))

-- the value of a convolution at an index list: the whole-number sum, modulo 2^64, of the products
-- of the kernel's values and the operand's values under them
abbrev pub convolved : List ℕ → List ℕ → (List ℕ → ℤ) → (List ℕ → ℤ) → List ℕ → ℤ
convolved axes ks a kernel is =
    wrap (fold ◌+ℤ◌ (pos 0) (map (λ js. a (window_index axes js is) *ℤ kernel js) (index_lists ks)))
