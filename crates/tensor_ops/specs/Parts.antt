-- Parts of reductions and contractions: what some of the index lists contribute to a value.
use Rattle.std.specs.Prelude.{ℕ, ℤ, pos, ◌+ℤ◌, ◌*ℤ◌, List, [], length, map, take, drop}
use Rattle.std.specs.Prelude.{Bool, true, false}
use Rattle.std.specs.List.{fold, range_with_len}
use Rattle.tensor_shape.specs.Index.{size_of, index_of}
use Rattle.tensor_shape.specs.Wrap.{wrap}
use Rattle.tensor_terms.specs.Contents.{Contents}
use Rattle.tensor_terms.specs.Contraction.{firsts, seconds}
use Rattle.tensor_values.specs.Combining.{combination}
use Rattle.tensor_terms.specs.Result.{shape_of}
use Rattle.tensor_terms.specs.Term.{Term, input, unary, binary, ternary}
use Rattle.tensor_terms.specs.Term.{Unary, each, constant, movement, pad, reduce, along}
use Rattle.tensor_terms.specs.Term.{Binary, pairwise, concat, contract, convolve, taking}
use Rattle.tensor_terms.specs.Value.{value}
use Rattle.tensor_terms.specs.Merged.{among, dims_at, other_dims, merged}
use Rattle.tensor_values.specs.declared.reducer.Reducer.{Reducer}

-- count index lists of dims, in order, from the one at place first on
abbrev pub index_lists_from : List ℕ → ℕ → ℕ → List (List ℕ)
index_lists_from ds first count = map (index_of ds) (range_with_len first count)

-- the combination, from the unit, of a reduction's values at count index lists of the dropped axes,
-- from place first on
abbrev pub reduced_part :
    Reducer → List ℕ → List ℕ → (List ℕ → ℤ) → List ℕ → ℕ → ℕ → ℤ
reduced_part r axes ds a is first count =
    combination r (map (λ js. a (merged (among axes (length ds)) ds js is))
    (index_lists_from (dims_at (among axes (length ds)) ds) first count))

-- the sum, modulo 2^64, of a contraction's products at count index lists of the paired axes, from
-- place first on
abbrev pub contracted_part :
    List (ℕ × ℕ) → List ℕ → List ℕ
    → (List ℕ → ℤ) → (List ℕ → ℤ) → List ℕ → ℕ → ℕ → ℤ
contracted_part pairs ds es a b is first count =
    wrap (fold ◌+ℤ◌ (pos 0) (map (λ js.
    a (merged (firsts pairs) ds js (take (length (other_dims (firsts pairs) ds)) is))
    *ℤ b (merged (seconds pairs) es js (drop (length (other_dims (firsts pairs) ds)) is)))
    (index_lists_from (dims_at (firsts pairs) ds) first count)))

-- whether an operation is a reduction
abbrev pub is_reduction : Unary → Bool
is_reduction (each o) = false
is_reduction (constant v) = false
is_reduction (movement m) = false
is_reduction (pad pairs) = false
is_reduction (reduce r axes) = true
is_reduction (along o axis) = false

-- whether an operation is a contraction
abbrev pub is_contraction : Binary → Bool
is_contraction (pairwise o) = false
is_contraction (concat axis) = false
is_contraction (contract pairs) = true
is_contraction (convolve axes) = false
is_contraction (taking axis) = false

-- whether the values of a term have parts: its last operation is a reduction or a contraction
abbrev pub has_parts : Term → Bool
has_parts (input n) = false
has_parts (unary o a) = is_reduction o
has_parts (binary o a b) = is_contraction o
has_parts (ternary o a b c) = false

-- the dims of the index lists that contribute to a value of an operation on one tensor: the dropped
-- axes of a reduction
abbrev pub unary_inner : Unary → List ℕ → List ℕ
unary_inner (each o) ds = []
unary_inner (constant v) ds = []
unary_inner (movement m) ds = []
unary_inner (pad pairs) ds = []
unary_inner (reduce r axes) ds = dims_at (among axes (length ds)) ds
unary_inner (along o axis) ds = []

-- the dims of the index lists that contribute to a value of an operation on two tensors: the paired
-- axes of a contraction
abbrev pub binary_inner : Binary → List ℕ → List ℕ
binary_inner (pairwise o) ds = []
binary_inner (concat axis) ds = []
binary_inner (contract pairs) ds = dims_at (firsts pairs) ds
binary_inner (convolve axes) ds = []
binary_inner (taking axis) ds = []

-- the dims of the index lists that contribute to a value of a term
abbrev pub inner_dims : Term → List Contents → List ℕ
inner_dims (input n) inputs = []
inner_dims (unary o a) inputs = unary_inner o (shape_of a inputs)
inner_dims (binary o a b) inputs = binary_inner o (shape_of a inputs)
inner_dims (ternary o a b c) inputs = []

-- the number of index lists that contribute to a value of a term
abbrev pub inner_size : Term → List Contents → ℕ
inner_size t inputs = size_of (inner_dims t inputs)

-- what count index lists, from place first on, contribute to the value at is of an operation on one
-- tensor
abbrev pub unary_part : Unary → List ℕ → (List ℕ → ℤ) → List ℕ → ℕ → ℕ → ℤ
unary_part (each o) ds a is first count = pos 0
unary_part (constant v) ds a is first count = pos 0
unary_part (movement m) ds a is first count = pos 0
unary_part (pad pairs) ds a is first count = pos 0
unary_part (reduce r axes) ds a is first count = reduced_part r axes ds a is first count
unary_part (along o axis) ds a is first count = pos 0

-- what count index lists, from place first on, contribute to the value at is of an operation on two
-- tensors
abbrev pub binary_part :
    Binary → List ℕ → List ℕ → (List ℕ → ℤ) → (List ℕ → ℤ)
    → List ℕ → ℕ → ℕ → ℤ
binary_part (pairwise o) ds es a b is first count = pos 0
binary_part (concat axis) ds es a b is first count = pos 0
binary_part (contract pairs) ds es a b is first count =
    contracted_part pairs ds es a b is first count
binary_part (convolve axes) ds es a b is first count = pos 0
binary_part (taking axis) ds es a b is first count = pos 0

-- what count index lists, from place first on, contribute to the value of a term at index list is
abbrev pub part_at : Term → List Contents → List ℕ → ℕ → ℕ → ℤ
part_at (input n) inputs is first count = pos 0
part_at (unary o a) inputs is first count =
    unary_part o (shape_of a inputs) (value a inputs) is first count
part_at (binary o a b) inputs is first count =
    binary_part o (shape_of a inputs) (shape_of b inputs) (value a inputs) (value b inputs)
    is first count
part_at (ternary o a b c) inputs is first count = pos 0

-- what count index lists, from place first on, contribute to the value of a term at place p
abbrev pub part_value : Term → List Contents → ℕ → ℕ → ℕ → ℤ
part_value t inputs p first count = part_at t inputs (index_of (shape_of t inputs) p) first count

-- what all index lists contribute to the value of a term at place p
abbrev pub whole_value : Term → List Contents → ℕ → ℤ
whole_value t inputs p = part_value t inputs p 0 (inner_size t inputs)
