-- The number of each operation in a record, and how a node begins.
use Rattle.std.specs.Prelude.{ℕ, List, ◌∷◌, ◌++◌, length}
use Rattle.tensor_ops.specs.LineOperation.{LineOperation}
use Rattle.tensor_ops.specs.LineOperation.TheVariants.{Cumsum, Cumprod, Argmax, Argmin}
use Rattle.tensor_values.specs.declared.operations.UnaryScalar.{UnaryScalar}
use Rattle.tensor_values.specs.declared.operations.UnaryScalar.TheVariants as one
use Rattle.tensor_values.specs.declared.operations.BinaryScalar.{BinaryScalar}
use Rattle.tensor_values.specs.declared.operations.BinaryScalar.TheVariants as two
use Rattle.tensor_values.specs.declared.reducer.Reducer.{Reducer}
use Rattle.tensor_values.specs.declared.reducer.Reducer.TheVariants.{Sum, Prod, Max, Min, All, Any}
use Rattle.prepared_expressions.specs.declared.kind.UnaryKind.{UnaryKind}
use Rattle.prepared_expressions.specs.declared.kind.UnaryKind.TheVariants.{Each, Constant}
use Rattle.prepared_expressions.specs.declared.kind.UnaryKind.TheVariants.{Broadcast, Slice}
use Rattle.prepared_expressions.specs.declared.kind.UnaryKind.TheVariants.{Shuffle}
use Rattle.prepared_expressions.specs.declared.kind.UnaryKind.TheVariants.{Reshape, Chip, Reverse}
use Rattle.prepared_expressions.specs.declared.kind.UnaryKind.TheVariants.{Stride, Pad, Reduce, Along}
use Rattle.prepared_expressions.specs.declared.kind.BinaryKind.{BinaryKind}
use Rattle.prepared_expressions.specs.declared.kind.BinaryKind.TheVariants.{Pairwise, Concat}
use Rattle.prepared_expressions.specs.declared.kind.BinaryKind.TheVariants.{Contract, Convolve, Take}
use Rattle.prepared_expressions.specs.declared.kind.Kind.{Kind}
use Rattle.prepared_expressions.specs.declared.kind.Kind.TheVariants.{Input, One, Two, Select}

-- the number of an operation on each value
abbrev pub each_number : UnaryScalar → ℕ
each_number one.Neg = 1
each_number one.Abs = 2
each_number one.Square = 3
each_number one.Not = 4
each_number one.BitNot = 42
each_number one.BitCount = 50

-- the number of an operation on each two values at one place
abbrev pub pairwise_number : BinaryScalar → ℕ
pairwise_number two.Add = 5
pairwise_number two.Sub = 6
pairwise_number two.Mul = 7
pairwise_number two.CwiseMax = 8
pairwise_number two.CwiseMin = 9
pairwise_number two.Lt = 10
pairwise_number two.Le = 11
pairwise_number two.Eq = 12
pairwise_number two.Ne = 13
pairwise_number two.Gt = 14
pairwise_number two.Ge = 15
pairwise_number two.And = 16
pairwise_number two.Or = 17
pairwise_number two.FloorDivide = 37
pairwise_number two.Remainder = 38
pairwise_number two.BitAnd = 39
pairwise_number two.BitOr = 40
pairwise_number two.BitXor = 41
pairwise_number two.ShiftLeft = 43
pairwise_number two.ShiftRight = 44

-- the number of a reduction
abbrev pub reducer_number : Reducer → ℕ
reducer_number Sum = 29
reducer_number Prod = 30
reducer_number Max = 31
reducer_number Min = 32
reducer_number All = 33
reducer_number Any = 34

-- the number of an operation along one axis
abbrev pub line_number : LineOperation → ℕ
line_number Cumsum = 45
line_number Cumprod = 46
line_number Argmax = 47
line_number Argmin = 48

-- the number of an operation on one operand
abbrev pub unary_number : UnaryKind → ℕ
unary_number (Each o) = each_number o
unary_number Constant = 19
unary_number Broadcast = 20
unary_number Slice = 21
unary_number Shuffle = 22
unary_number Reshape = 23
unary_number Chip = 24
unary_number Reverse = 25
unary_number Stride = 26
unary_number Pad = 27
unary_number (Reduce r) = reducer_number r
unary_number (Along o) = line_number o

-- the number of an operation on two operands
abbrev pub binary_number : BinaryKind → ℕ
binary_number (Pairwise o) = pairwise_number o
binary_number Concat = 28
binary_number Contract = 35
binary_number Convolve = 36
binary_number Take = 49

-- the number of a node's kind
abbrev pub number_of : Kind → ℕ
number_of Input = 0
number_of (One o) = unary_number o
number_of (Two o) = binary_number o
number_of Select = 18

-- a node's head and the numbers after it: the operation's number, how many arguments there are, and
-- the arguments
abbrev pub headed : ℕ → List ℕ → List ℕ → List ℕ
headed number arguments rest = number ∷ length arguments ∷ arguments ++ rest
