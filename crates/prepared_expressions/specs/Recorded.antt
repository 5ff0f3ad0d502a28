-- An expression as numbers: the head of each node before its operands.
use Rattle.std.specs.Prelude.{ℕ, ◌+◌, max, List, [], ◌∷◌, ◌++◌, length, map, Bool, true, false}
use Rattle.std.specs.Prelude.{FitsSigned}
use Rattle.std.specs.Int.{w64, cast_unsigned}
use Rattle.tensor_terms.specs.Term.{Term, input, unary, binary, ternary, select}
use Rattle.tensor_terms.specs.Term.{Unary, each, constant, movement, pad, reduce, along}
use Rattle.tensor_terms.specs.Term.{Movement, broadcast, slice, shuffle, reshape, chip, reverse}
use Rattle.tensor_terms.specs.Term.{stride}
use Rattle.tensor_terms.specs.Term.{Binary, pairwise, concat, contract, convolve, taking}
use Rattle.prepared_expressions.specs.declared.kind.UnaryKind.{UnaryKind}
use Rattle.prepared_expressions.specs.declared.kind.UnaryKind.TheVariants.{Each, Constant}
use Rattle.prepared_expressions.specs.declared.kind.UnaryKind.TheVariants.{Broadcast, Slice}
use Rattle.prepared_expressions.specs.declared.kind.UnaryKind.TheVariants.{Shuffle}
use Rattle.prepared_expressions.specs.declared.kind.UnaryKind.TheVariants.{Reshape, Chip, Reverse}
use Rattle.prepared_expressions.specs.declared.kind.UnaryKind.TheVariants.{Stride, Pad, Reduce, Along}
use Rattle.prepared_expressions.specs.declared.kind.BinaryKind.{BinaryKind}
use Rattle.prepared_expressions.specs.declared.kind.BinaryKind.TheVariants.{Pairwise, Concat}
use Rattle.prepared_expressions.specs.declared.kind.BinaryKind.TheVariants.{Contract, Convolve, Take}
use Rattle.prepared_expressions.specs.declared.kind.Kind.TheVariants.{Input, One, Two, Select}
use Rattle.prepared_expressions.specs.Numbers.{number_of, headed}

-- the kind of a movement
abbrev pub movement_kind : Movement → UnaryKind
movement_kind (broadcast counts) = Broadcast
movement_kind (slice offsets extents) = Slice
movement_kind (shuffle order) = Shuffle
movement_kind (reshape sizes) = Reshape
movement_kind (chip offset axis) = Chip
movement_kind (reverse flags) = Reverse
movement_kind (stride steps) = Stride

-- the kind of an operation on one operand
abbrev pub unary_kind : Unary → UnaryKind
unary_kind (each o) = Each o
unary_kind (constant v) = Constant
unary_kind (movement m) = movement_kind m
unary_kind (pad pairs) = Pad
unary_kind (reduce r axes) = Reduce r
unary_kind (along o axis) = Along o

-- the kind of an operation on two operands
abbrev pub binary_kind : Binary → BinaryKind
binary_kind (pairwise o) = Pairwise o
binary_kind (concat axis) = Concat
binary_kind (contract pairs) = Contract
binary_kind (convolve axes) = Convolve
binary_kind (taking axis) = Take

-- a flag as a number
abbrev pub flag_number : Bool → ℕ
flag_number true = 1
flag_number false = 0

-- pairs as numbers, one pair after the other
abbrev pub pair_numbers : List (ℕ × ℕ) → List ℕ
pair_numbers [] = []
pair_numbers (p ∷ ps) = p.0 ∷ p.1 ∷ pair_numbers ps

-- the arguments of a movement as numbers; of two lists, the first has its length before it
abbrev pub movement_numbers : Movement → List ℕ
movement_numbers (broadcast counts) = counts
movement_numbers (slice offsets extents) = length offsets ∷ offsets ++ extents
movement_numbers (shuffle order) = order
movement_numbers (reshape sizes) = sizes
movement_numbers (chip offset axis) = offset ∷ axis ∷ []
movement_numbers (reverse flags) = map flag_number flags
movement_numbers (stride steps) = steps

-- the arguments of an operation on one operand as numbers
abbrev pub unary_numbers : Unary → List ℕ
unary_numbers (each o) = []
unary_numbers (constant v) = cast_unsigned w64 v ∷ []
unary_numbers (movement m) = movement_numbers m
unary_numbers (pad pairs) = pair_numbers pairs
unary_numbers (reduce r axes) = axes
unary_numbers (along o axis) = axis ∷ []

-- the arguments of an operation on two operands as numbers
abbrev pub binary_numbers : Binary → List ℕ
binary_numbers (pairwise o) = []
binary_numbers (concat axis) = axis ∷ []
binary_numbers (contract pairs) = pair_numbers pairs
binary_numbers (convolve axes) = axes
binary_numbers (taking axis) = axis ∷ []

-- the numbers of a term, before other numbers
abbrev pub recorded : Term → List ℕ → List ℕ
recorded (input n) rest = headed (number_of Input) (n ∷ []) rest
recorded (unary o a) rest =
    headed (number_of (One (unary_kind o))) (unary_numbers o) (recorded a rest)
recorded (binary o a b) rest =
    headed (number_of (Two (binary_kind o))) (binary_numbers o) (recorded a (recorded b rest))
recorded (ternary select a b c) rest =
    headed (number_of Select) [] (recorded a (recorded b (recorded c rest)))

-- the numbers of terms, one term after the other, before other numbers
abbrev pub recorded_all : List Term → List ℕ → List ℕ
recorded_all [] rest = rest
recorded_all (t ∷ ts) rest = recorded t (recorded_all ts rest)

-- how many nodes of a term lie one below the other
abbrev pub height_of : Term → ℕ
height_of (input n) = 1
height_of (unary o a) = 1 + height_of a
height_of (binary o a b) = 1 + max (height_of a) (height_of b)
height_of (ternary o a b c) = 1 + max (height_of a) (max (height_of b) (height_of c))

-- the constant of an operation is of the i64 range
abbrev pub HasRange : Unary → Type 0
HasRange (each o) = Unit {0}
HasRange (constant v) = FitsSigned w64 v
HasRange (movement m) = Unit {0}
HasRange (pad pairs) = Unit {0}
HasRange (reduce r axes) = Unit {0}
HasRange (along o axis) = Unit {0}

-- all constants of a term are of the i64 range
abbrev pub HasRanges : Term → Type 0
HasRanges (input n) = Unit {0}
HasRanges (unary o a) = HasRange o × HasRanges a
HasRanges (binary o a b) = HasRanges a × HasRanges b
HasRanges (ternary o a b c) = HasRanges a × HasRanges b × HasRanges c
