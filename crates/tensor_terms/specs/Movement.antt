-- Movements: their result dims, and the index list of the operand that they read.
use Rattle.std.specs.Prelude.{ℕ, zero, suc, ◌+◌, ◌-◌, ◌*◌, ◌%◌, List, [], ◌∷◌, length, map}
use Rattle.std.specs.Prelude.{slice_index, slice_set, insert, remove, nat_eq, nat_lt, nat_le}
use Rattle.std.specs.Prelude.{Bool, true, false, ◌&&◌, ◌||◌, Ok, if◌then◌else◌}
use Rattle.std.specs.Int.{div_ceil}
use Rattle.tensor_shape.specs.Index.{size_of, place, index_of}
use Rattle.tensor_shape.specs.declared.bounds.Bounds.{Bounds}
use Rattle.tensor_terms.specs.Shaped.{Shaped, check, check_lengths, legal_dims, with_one}
use Rattle.tensor_terms.specs.Term.{Movement, broadcast, slice, shuffle, reshape, chip, reverse}
use Rattle.tensor_terms.specs.Term.{stride}
use Rattle.tensor_terms.specs.Zipped.{zip_with}
use Rattle.tensor_terms.specs.declared.fault.ExprFault.TheVariants.{ShapeMismatch, OutOfRange}

-- each index modulo its dimension
abbrev pub wrapped : List ℕ → List ℕ → List ℕ
wrapped ds is = zip_with (λ d i. i % d) ds is

-- each index plus its offset
abbrev pub offset_by : List ℕ → List ℕ → List ℕ
offset_by os is = zip_with (λ o i. i + o) os is

-- a list with the number i_k at axis s_k, for each k
abbrev pub scattered : List ℕ → List ℕ → List ℕ → List ℕ
scattered (s ∷ ss) (i ∷ is) js = slice_set (scattered ss is js) s i
scattered axes is js = js

-- each index, mirrored at the axes whose flag is set
abbrev pub mirrored : List Bool → List ℕ → List ℕ → List ℕ
mirrored (f ∷ fs) (d ∷ ds) (i ∷ is) = (if f then d - 1 - i else i) ∷ mirrored fs ds is
mirrored flags ds is = []

-- each index times its step
abbrev pub scaled : List ℕ → List ℕ → List ℕ
scaled ss is = zip_with (λ s i. i * s) ss is

-- the index list of an operand of dims ds that a movement reads for an index list of the result
abbrev pub moved : Movement → List ℕ → List ℕ → List ℕ
moved (broadcast counts) ds is = wrapped ds is
moved (slice offsets extents) ds is = offset_by offsets is
moved (shuffle order) ds is = scattered order is (map (λ d. 0) ds)
moved (reshape sizes) ds is = index_of ds (place sizes is)
moved (chip offset axis) ds is = insert is axis offset
moved (reverse flags) ds is = mirrored flags ds is
moved (stride steps) ds is = scaled steps is

-- each dimension times its count
abbrev pub repeated_dims : List ℕ → List ℕ → List ℕ
repeated_dims ds counts = zip_with (λ d c. d * c) ds counts

-- the dimensions at axes, in the order of the axes
abbrev pub shuffled_dims : List ℕ → List ℕ → List ℕ
shuffled_dims ds order = map (λ s. slice_index ds s) order

-- how many indices of each dimension are multiples of its step: the quotient, rounded up
abbrev pub strided_dims : List ℕ → List ℕ → List ℕ
strided_dims ds steps = zip_with (λ d s. div_ceil d s) ds steps

-- whether no number is 0
abbrev pub none_is_zero : List ℕ → Bool
none_is_zero [] = true
none_is_zero (c ∷ cs) = nat_lt 0 c && none_is_zero cs

-- whether each offset plus its extent is at most the dimension
abbrev pub fit_within : List ℕ → List ℕ → List ℕ → Bool
fit_within (d ∷ ds) (o ∷ os) (e ∷ es) = nat_le (o + e) d && fit_within ds os es
fit_within ds offsets extents = true

-- whether a number is in a list
abbrev pub is_among : ℕ → List ℕ → Bool
is_among n [] = false
is_among n (s ∷ ss) = nat_eq n s || is_among n ss

-- whether all numbers below n are in a list; a list of n numbers is then a permutation of them
abbrev pub has_all_below : ℕ → List ℕ → Bool
has_all_below zero ss = true
has_all_below (suc n) ss = is_among n ss && has_all_below n ss

-- the result dims of a movement within bounds, or the fault of the first check that fails
abbrev pub moved_dims : Bounds → Movement → List ℕ → Shaped
moved_dims bounds (broadcast counts) ds = check_lengths counts ds
    (check (none_is_zero counts) OutOfRange (legal_dims bounds (repeated_dims ds counts)))
moved_dims bounds (slice offsets extents) ds =
    check (nat_eq (length offsets) (length ds) && nat_eq (length extents) (length ds)) ShapeMismatch
    (check (fit_within ds offsets extents) OutOfRange (Ok extents))
moved_dims bounds (shuffle order) ds = check_lengths order ds
    (check (has_all_below (length ds) order) OutOfRange (Ok (shuffled_dims ds order)))
moved_dims bounds (reshape sizes) ds =
    with_one (λ es. check (nat_eq (size_of es) (size_of ds)) ShapeMismatch (Ok es))
    (legal_dims bounds sizes)
moved_dims bounds (chip offset axis) ds =
    check (nat_lt axis (length ds) && nat_lt offset (slice_index ds axis)) OutOfRange
    (Ok (remove ds axis))
moved_dims bounds (reverse flags) ds = check_lengths flags ds (Ok ds)
moved_dims bounds (stride steps) ds = check_lengths steps ds
    (check (none_is_zero steps) OutOfRange (Ok (strided_dims ds steps)))
