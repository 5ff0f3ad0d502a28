-- The result dims of a term, or its first fault.
use Rattle.std.specs.Prelude.{ℕ, List, [], ◌∷◌, Ok}
use Rattle.std.specs.Result.{result_unwrap_or}
use Rattle.tensor_shape.specs.Legal.{widest}
use Rattle.tensor_shape.specs.declared.bounds.Bounds.{Bounds}
use Rattle.tensor_terms.specs.Along.{along_dims, taken_dims}
use Rattle.tensor_terms.specs.Contents.{Contents, input_of}
use Rattle.tensor_terms.specs.Concatenation.{concatenated_dims}
use Rattle.tensor_terms.specs.Contraction.{contracted_dims}
use Rattle.tensor_terms.specs.Convolution.{convolved_dims}
use Rattle.tensor_terms.specs.Movement.{moved_dims}
use Rattle.tensor_terms.specs.Padding.{pad_dims}
use Rattle.tensor_terms.specs.Reduction.{reduced_dims}
use Rattle.tensor_terms.specs.Shaped.{Shaped, with_one, equal_dims}
use Rattle.tensor_terms.specs.Term.{Term, input, unary, binary, ternary}
use Rattle.tensor_terms.specs.Term.{Unary, each, constant, movement, pad, reduce, along}
use Rattle.tensor_terms.specs.Term.{Binary, pairwise, concat, contract, convolve, taking}
use Rattle.tensor_terms.specs.Term.{Ternary, select}

-- the result dims of an operation on one tensor within bounds, or the fault of its first check that
-- fails
abbrev pub unary_dims : Bounds → Unary → List ℕ → Shaped
unary_dims bounds (each o) d = Ok d
unary_dims bounds (constant v) d = Ok d
unary_dims bounds (movement m) d = moved_dims bounds m d
unary_dims bounds (pad pairs) d = pad_dims bounds pairs d
unary_dims bounds (reduce r axes) d = reduced_dims axes d
unary_dims bounds (along o axis) d = along_dims o axis d

-- the result dims of an operation on two tensors within bounds, or the fault of its first check
-- that fails
abbrev pub binary_dims : Bounds → Binary → List ℕ → List ℕ → Shaped
binary_dims bounds (pairwise o) d e = equal_dims d e
binary_dims bounds (concat axis) d e = concatenated_dims bounds axis d e
binary_dims bounds (contract pairs) d e = contracted_dims bounds pairs d e
binary_dims bounds (convolve axes) d e = convolved_dims bounds axes d e
binary_dims bounds (taking axis) d e = taken_dims bounds axis d e

-- the result dims of an operation on three tensors, or the fault of its first check that fails
abbrev pub ternary_dims : Ternary → List ℕ → List ℕ → List ℕ → Shaped
ternary_dims select c d e = with_one (λ both. equal_dims both e) (equal_dims c d)

-- the result dims of a term, or its first fault. Operands are checked from the left, each
-- completely, before the operation itself. The result of each node is within bounds
abbrev pub dims_of : Bounds → Term → List Contents → Shaped
dims_of bounds (input n) inputs = Ok (input_of inputs n).dims
dims_of bounds (unary o a) inputs = with_one (unary_dims bounds o) (dims_of bounds a inputs)
dims_of bounds (binary o a b) inputs =
    with_one (λ d. with_one (binary_dims bounds o d) (dims_of bounds b inputs)) (dims_of bounds a inputs)
dims_of bounds (ternary o a b c) inputs =
    with_one (λ d. with_one (λ e. with_one (ternary_dims o d e) (dims_of bounds c inputs))
    (dims_of bounds b inputs)) (dims_of bounds a inputs)

-- the result dims of each operand of a term, or its fault
abbrev pub operand_dims : Bounds → Term → List Contents → List Shaped
operand_dims bounds (input n) inputs = []
operand_dims bounds (unary o a) inputs = dims_of bounds a inputs ∷ []
operand_dims bounds (binary o a b) inputs = dims_of bounds a inputs ∷ dims_of bounds b inputs ∷ []
operand_dims bounds (ternary o a b c) inputs =
    dims_of bounds a inputs ∷ dims_of bounds b inputs ∷ dims_of bounds c inputs ∷ []

-- the result dims of a term within the widest bounds; no dims if it has a fault
abbrev pub shape_of : Term → List Contents → List ℕ
shape_of t inputs = result_unwrap_or (dims_of widest t inputs) []
