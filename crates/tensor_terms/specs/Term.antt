-- Expressions as terms: a constructor for each number of operands, with the arguments inside the
-- operation.
use Rattle.std.specs.Prelude.{ℕ, ◌+◌, ℤ, List, Bool, nat_lt, ◌&&◌}
use Rattle.tensor_scans.specs.declared.operation.LineOperation.{LineOperation}
use Rattle.tensor_values.specs.declared.operations.UnaryScalar.{UnaryScalar}
use Rattle.tensor_values.specs.declared.operations.BinaryScalar.{BinaryScalar}
use Rattle.tensor_values.specs.declared.reducer.Reducer.{Reducer}

-- the operations that move values and change none, with their arguments
pub data Movement : Type 0 where
  broadcast : List ℕ → Movement
  slice : List ℕ → List ℕ → Movement
  shuffle : List ℕ → Movement
  reshape : List ℕ → Movement
  chip : ℕ → ℕ → Movement
  reverse : List Bool → Movement
  stride : List ℕ → Movement

-- the operations on one tensor: on each value, one value everywhere, a movement, zeroes around it,
-- a reduction over axes, or an operation along an axis
pub data Unary : Type 0 where
  each : UnaryScalar → Unary
  constant : ℤ → Unary
  movement : Movement → Unary
  pad : List (ℕ × ℕ) → Unary
  reduce : Reducer → List ℕ → Unary
  along : LineOperation → ℕ → Unary

-- the operations on two tensors: on each two values, a concatenation along an axis, a contraction
-- over pairs of axes, a convolution along axes, or a take along an axis of the first by the numbers
-- of the second
pub data Binary : Type 0 where
  pairwise : BinaryScalar → Binary
  concat : ℕ → Binary
  contract : List (ℕ × ℕ) → Binary
  convolve : List ℕ → Binary
  taking : ℕ → Binary

-- the operations on three tensors
pub data Ternary : Type 0 where
  select : Ternary

-- an expression, regardless of where it lies in memory
pub data Term : Type 0 where
  input : ℕ → Term
  unary : Unary → Term → Term
  binary : Binary → Term → Term → Term
  ternary : Ternary → Term → Term → Term → Term

-- whether each input that a term names is below the number of inputs
abbrev pub has_inputs : Term → ℕ → Bool
has_inputs (input n) count = nat_lt n count
has_inputs (unary o a) count = has_inputs a count
has_inputs (binary o a b) count = has_inputs a count && has_inputs b count
has_inputs (ternary o a b c) count =
    has_inputs a count && (has_inputs b count && has_inputs c count)

-- the number of nodes of a term
abbrev pub nodes_of : Term → ℕ
nodes_of (input n) = 1
nodes_of (unary o a) = 1 + nodes_of a
nodes_of (binary o a b) = 1 + nodes_of a + nodes_of b
nodes_of (ternary o a b c) = 1 + nodes_of a + nodes_of b + nodes_of c
