-- The value of a term at an index list of its result dims.
use Rattle.std.specs.Prelude.{ℕ, ℤ, List, map, if◌then◌else◌}
use Rattle.std.specs.List.{range_with_len}
use Rattle.tensor_shape.specs.Index.{size_of, index_of}
use Rattle.tensor_terms.specs.Along.{along_value, taken}
use Rattle.tensor_terms.specs.Contents.{Contents, value_at, input_of}
use Rattle.tensor_terms.specs.Concatenation.{concatenated}
use Rattle.tensor_terms.specs.Contraction.{contracted}
use Rattle.tensor_terms.specs.Convolution.{convolved}
use Rattle.tensor_terms.specs.Movement.{moved}
use Rattle.tensor_terms.specs.Padding.{padded}
use Rattle.tensor_terms.specs.Reduction.{reduced}
use Rattle.tensor_terms.specs.Result.{shape_of}
use Rattle.tensor_values.specs.Scalars.{applied, combined, is_true}
use Rattle.tensor_terms.specs.Term.{Term, input, unary, binary, ternary}
use Rattle.tensor_terms.specs.Term.{Unary, each, constant, movement, pad, reduce, along}
use Rattle.tensor_terms.specs.Term.{Binary, pairwise, concat, contract, convolve, taking}
use Rattle.tensor_terms.specs.Term.{Ternary, select}

-- the value of an operation on one tensor at an index list, from the dims d and the values a of its
-- operand
abbrev pub unary_value : Unary → List ℕ → (List ℕ → ℤ) → List ℕ → ℤ
unary_value (each o) d a index = applied o (a index)
unary_value (constant v) d a index = v
unary_value (movement m) d a index = a (moved m d index)
unary_value (pad pairs) d a index = padded pairs d a index
unary_value (reduce r axes) d a index = reduced r axes d a index
unary_value (along o axis) d a index = along_value o axis d a index

-- the value of an operation on two tensors at an index list, from the dims and the values of its
-- operands
abbrev pub binary_value : Binary → List ℕ → List ℕ → (List ℕ → ℤ) → (List ℕ → ℤ) → List ℕ → ℤ
binary_value (pairwise o) d e a b index = combined o (a index) (b index)
binary_value (concat axis) d e a b index = concatenated axis d a b index
binary_value (contract pairs) d e a b index = contracted pairs d e a b index
binary_value (convolve axes) d e a b index = convolved axes e a b index
binary_value (taking axis) d e a b index = taken axis d e a b index

-- the value of an operation on three tensors at an index list, from the values of its operands
abbrev pub ternary_value : Ternary → (List ℕ → ℤ) → (List ℕ → ℤ) → (List ℕ → ℤ) → List ℕ → ℤ
ternary_value select c a b index = if is_true (c index) then a index else b index

-- the value of a term at an index list of its result dims
abbrev pub value : Term → List Contents → List ℕ → ℤ
value (input n) inputs index = value_at (input_of inputs n) index
value (unary o a) inputs index = unary_value o (shape_of a inputs) (value a inputs) index
value (binary o a b) inputs index =
    binary_value o (shape_of a inputs) (shape_of b inputs) (value a inputs) (value b inputs) index
value (ternary o a b c) inputs index =
    ternary_value o (value a inputs) (value b inputs) (value c inputs) index

-- the value at a place
abbrev pub value_of_place : Term → List Contents → ℕ → ℤ
value_of_place t inputs p = value t inputs (index_of (shape_of t inputs) p)

-- the values at `count` places from the first on
abbrev pub values_from : Term → List Contents → ℕ → ℕ → List ℤ
values_from t inputs first count = map (value_of_place t inputs) (range_with_len first count)

-- the tensor of a term: its values at all index lists, in order of their places
abbrev pub tensor_of : Term → List Contents → Contents
tensor_of t inputs = record {
  dims = shape_of t inputs;
  values = map (λ p. value t inputs (index_of (shape_of t inputs) p))
      (range_with_len 0 (size_of (shape_of t inputs)));
}
