-- The table of operations by name: the operands and arguments of each, and the term that they make.
use Rattle.std.specs.Prelude.{ℕ, ◌+◌, length, List, [], ◌∷◌, ◌++◌, codes}
use Rattle.tensor_ops.specs.Term.{Unary, each, constant, movement, pad, reduce, along}
use Rattle.tensor_ops.specs.Term.{Binary, pairwise, concat, contract, convolve, taking}
use Rattle.tensor_ops.specs.Term.{Ternary, select, broadcast, slice, shuffle, reshape}
use Rattle.tensor_ops.specs.Term.{chip, reverse, stride}
use Rattle.tensor_ops.specs.UnaryScalar.{UnaryScalar}
use Rattle.tensor_ops.specs.UnaryScalar.TheVariants as unary
use Rattle.tensor_ops.specs.BinaryScalar.{BinaryScalar}
use Rattle.tensor_ops.specs.BinaryScalar.TheVariants as binary
use Rattle.tensor_ops.specs.LineOperation.{LineOperation}
use Rattle.tensor_ops.specs.LineOperation.TheVariants.{Cumsum, Cumprod, Argmax, Argmin}
use Rattle.tensor_ops.specs.Reducer.{Reducer}
use Rattle.tensor_ops.specs.Reducer.TheVariants.{Sum, Prod, Max, Min, All, Any}
use Rattle.expr_reader.specs.Arguments.{Form, size, sizes, pairs, flags, value, Arguments}

-- an operation with one, two or three operands: the forms of the arguments after them, and what
-- the arguments make
pub data Operation : Type 0 where
  one : (forms : List Form) → (Arguments forms → Unary) → Operation
  two : (forms : List Form) → (Arguments forms → Binary) → Operation
  three : (forms : List Form) → (Arguments forms → Ternary) → Operation

-- how many operands an operation has
abbrev pub operands_of : Operation → ℕ
operands_of (one forms make) = 1
operands_of (two forms make) = 2
operands_of (three forms make) = 3

-- how many elements stand after the name: operands, and then arguments
abbrev pub arity_of : Operation → ℕ
arity_of (one forms make) = 1 + length forms
arity_of (two forms make) = 2 + length forms
arity_of (three forms make) = 3 + length forms

-- an operation on each value
abbrev pub on_each : UnaryScalar → Operation
on_each o = one [] (λ none. each o)

-- an operation on each two values at one place
abbrev pub on_pairs : BinaryScalar → Operation
on_pairs o = two [] (λ none. pairwise o)

-- a reduction over axes
abbrev pub over_axes : Reducer → Operation
over_axes r = one (sizes ∷ []) (λ a. reduce r a.0)

-- an operation along one axis
abbrev pub along_axis : LineOperation → Operation
along_axis o = one (size ∷ []) (λ a. along o a.0)

-- the operations of version 1 by name: those on the values at one place, the movements, the
-- reductions and the contraction
abbrev pub operations_1 : List (List ℕ × Operation)
operations_1 =
    (codes "neg", on_each unary.Neg)
    ∷ (codes "abs", on_each unary.Abs)
    ∷ (codes "square", on_each unary.Square)
    ∷ (codes "not", on_each unary.Not)
    ∷ (codes "add", on_pairs binary.Add)
    ∷ (codes "sub", on_pairs binary.Sub)
    ∷ (codes "mul", on_pairs binary.Mul)
    ∷ (codes "cwise_max", on_pairs binary.CwiseMax)
    ∷ (codes "cwise_min", on_pairs binary.CwiseMin)
    ∷ (codes "lt", on_pairs binary.Lt)
    ∷ (codes "le", on_pairs binary.Le)
    ∷ (codes "eq", on_pairs binary.Eq)
    ∷ (codes "ne", on_pairs binary.Ne)
    ∷ (codes "gt", on_pairs binary.Gt)
    ∷ (codes "ge", on_pairs binary.Ge)
    ∷ (codes "and", on_pairs binary.And)
    ∷ (codes "or", on_pairs binary.Or)
    ∷ (codes "select", three [] (λ none. select))
    ∷ (codes "constant", one (value ∷ []) (λ a. constant a.0))
    ∷ (codes "broadcast", one (sizes ∷ []) (λ a. movement (broadcast a.0)))
    ∷ (codes "slice", one (sizes ∷ sizes ∷ []) (λ a. movement (slice a.0 a.1.0)))
    ∷ (codes "shuffle", one (sizes ∷ []) (λ a. movement (shuffle a.0)))
    ∷ (codes "reshape", one (sizes ∷ []) (λ a. movement (reshape a.0)))
    ∷ (codes "chip", one (size ∷ size ∷ []) (λ a. movement (chip a.0 a.1.0)))
    ∷ (codes "reverse", one (flags ∷ []) (λ a. movement (reverse a.0)))
    ∷ (codes "sum", over_axes Sum)
    ∷ (codes "prod", over_axes Prod)
    ∷ (codes "maximum", over_axes Max)
    ∷ (codes "minimum", over_axes Min)
    ∷ (codes "all", over_axes All)
    ∷ (codes "any", over_axes Any)
    ∷ (codes "contract", two (pairs ∷ []) (λ a. contract a.0)) ∷ []

-- the operations of version 2: those of version 1, and these
abbrev pub operations_2 : List (List ℕ × Operation)
operations_2 = operations_1
    ++ ((codes "stride", one (sizes ∷ []) (λ a. movement (stride a.0)))
    ∷ (codes "pad", one (pairs ∷ []) (λ a. pad a.0))
    ∷ (codes "concat", two (size ∷ []) (λ a. concat a.0))
    ∷ (codes "convolve", two (sizes ∷ []) (λ a. convolve a.0)) ∷ [])

-- the operations of version 3: those of version 2, these on integers, and these along one axis
abbrev pub operations_3 : List (List ℕ × Operation)
operations_3 = operations_2
    ++ ((codes "floor_divide", on_pairs binary.FloorDivide)
    ∷ (codes "remainder", on_pairs binary.Remainder)
    ∷ (codes "bit_and", on_pairs binary.BitAnd)
    ∷ (codes "bit_or", on_pairs binary.BitOr)
    ∷ (codes "bit_xor", on_pairs binary.BitXor)
    ∷ (codes "bit_not", on_each unary.BitNot)
    ∷ (codes "bit_count", on_each unary.BitCount)
    ∷ (codes "shift_left", on_pairs binary.ShiftLeft)
    ∷ (codes "shift_right", on_pairs binary.ShiftRight)
    ∷ (codes "cumsum", along_axis Cumsum)
    ∷ (codes "cumprod", along_axis Cumprod)
    ∷ (codes "argmax", along_axis Argmax)
    ∷ (codes "argmin", along_axis Argmin)
    ∷ (codes "take", two (size ∷ []) (λ a. taking a.0)) ∷ [])
