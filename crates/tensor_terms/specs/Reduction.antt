-- Reductions: all values along the dropped axes, combined one after the other from a unit.
use Rattle.std.specs.Prelude.{ℕ, ℤ, List, [], ◌∷◌, length, map}
use Rattle.std.specs.Prelude.{nat_lt, Bool, true, not, ◌&&◌, Ok}
use Rattle.tensor_values.specs.Combining.{combination}
use Rattle.tensor_terms.specs.Movement.{is_among}
use Rattle.tensor_terms.specs.Shaped.{Shaped, check}
use Rattle.tensor_terms.specs.Merged.{among, dims_at, other_dims, merged, index_lists}
use Rattle.tensor_terms.specs.declared.fault.ExprFault.TheVariants.{OutOfRange}
use Rattle.tensor_values.specs.declared.reducer.Reducer.{Reducer}

-- whether each axis is below the rank and no axis appears twice
abbrev pub are_axes : ℕ → List ℕ → Bool
are_axes rank [] = true
are_axes rank (x ∷ xs) = nat_lt x rank && (not (is_among x xs) && are_axes rank xs)

-- the result dims of a reduction over axes, or the fault of its check
abbrev pub reduced_dims : List ℕ → List ℕ → Shaped
reduced_dims axes ds = check (are_axes (length ds) axes) OutOfRange (Ok (other_dims axes ds))

-- the value of a reduction at an index list: the operand's values over all index lists of the
-- dropped axes, combined in order of their places
abbrev pub reduced : Reducer → List ℕ → List ℕ → (List ℕ → ℤ) → List ℕ → ℤ
reduced r axes ds a is =
    combination r (map (λ js. a (merged (among axes (length ds)) ds js is))
    (index_lists (dims_at (among axes (length ds)) ds)))
