-- Facts of operations that decide how an expression is cut into steps and evaluated.
use Rattle.std.specs.Prelude.{Bool, true, false}
use Rattle.tensor_terms.specs.Term.{Term, input, unary, binary, ternary}
use Rattle.tensor_terms.specs.Term.{Unary, each, constant, movement, pad, reduce, along}
use Rattle.tensor_terms.specs.Term.{Movement, broadcast, slice, shuffle, reshape, chip}
use Rattle.tensor_terms.specs.Term.{reverse, stride}
use Rattle.tensor_terms.specs.Term.{Binary, pairwise, concat, contract, convolve, taking}

-- whether an operation needs its operand as a tensor: a reduction does, which combines many values
-- into one, and an operation along an axis
abbrev pub combines : Unary → Bool
combines (each o) = false
combines (constant v) = false
combines (movement m) = false
combines (pad pairs) = false
combines (reduce r axes) = true
combines (along o axis) = true

-- whether an operation needs both operands as tensors: a contraction, a convolution and a take do
abbrev pub combines_two : Binary → Bool
combines_two (pairwise o) = false
combines_two (concat axis) = false
combines_two (contract pairs) = true
combines_two (convolve axes) = true
combines_two (taking axis) = true

-- whether the last operation of a term needs its operands as tensors
abbrev pub is_combining : Term → Bool
is_combining (input n) = false
is_combining (unary o a) = combines o
is_combining (binary o a b) = combines_two o
is_combining (ternary o a b c) = false

-- whether an operation is a movement
abbrev pub is_movement : Unary → Bool
is_movement (each o) = false
is_movement (constant v) = false
is_movement (movement m) = true
is_movement (pad pairs) = false
is_movement (reduce r axes) = false
is_movement (along o axis) = false

-- whether a movement leaves each value at its place
abbrev pub keeps_places : Movement → Bool
keeps_places (broadcast counts) = false
keeps_places (slice offsets extents) = false
keeps_places (shuffle order) = false
keeps_places (reshape sizes) = true
keeps_places (chip offset axis) = false
keeps_places (reverse flags) = false
keeps_places (stride steps) = false

-- whether a movement takes values at places that rise by one step along each axis
abbrev pub keeps_strides : Movement → Bool
keeps_strides (broadcast counts) = true
keeps_strides (slice offsets extents) = true
keeps_strides (shuffle order) = true
keeps_strides (reshape sizes) = false
keeps_strides (chip offset axis) = true
keeps_strides (reverse flags) = false
keeps_strides (stride steps) = true

-- whether an operation is a movement that leaves each value at its place
abbrev pub is_reshape : Unary → Bool
is_reshape (each o) = false
is_reshape (constant v) = false
is_reshape (movement m) = keeps_places m
is_reshape (pad pairs) = false
is_reshape (reduce r axes) = false
is_reshape (along o axis) = false
