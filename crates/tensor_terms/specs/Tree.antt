-- The term of an expression, and the term of its view by `Node`.
use Rattle.tensor_terms.specs.Term.{Term, input, unary, binary, ternary, Movement}
use Rattle.tensor_terms.specs.Term.{broadcast, slice, shuffle, reshape, chip, reverse, stride}
use Rattle.tensor_terms.specs.Term.{Unary, each, constant, movement, pad, reduce, along}
use Rattle.tensor_terms.specs.Term.{Binary, pairwise, concat, contract, convolve, taking}
use Rattle.tensor_terms.specs.Term.{Ternary, select}
use Rattle.tensor_terms.specs.declared.expr.Expr.{Expr}
use Rattle.tensor_terms.specs.declared.expr.Expr.TheVariants as expr
use Rattle.tensor_terms.specs.declared.expr.node.Movement.{Movement as MovementView}
use Rattle.tensor_terms.specs.declared.expr.node.Movement.TheVariants as move
use Rattle.tensor_terms.specs.declared.expr.node.Unary.{Unary as UnaryView}
use Rattle.tensor_terms.specs.declared.expr.node.Unary.TheVariants as one
use Rattle.tensor_terms.specs.declared.expr.node.Binary.{Binary as BinaryView}
use Rattle.tensor_terms.specs.declared.expr.node.Binary.TheVariants as two
use Rattle.tensor_terms.specs.declared.expr.node.Ternary.{Ternary as TernaryView}
use Rattle.tensor_terms.specs.declared.expr.node.Ternary.TheVariants as three
use Rattle.tensor_terms.specs.declared.expr.node.Node.{Node}
use Rattle.tensor_terms.specs.declared.expr.node.Node.TheVariants as node
use Rattle.tensor_scans.specs.declared.operation.LineOperation.TheVariants as line_operation
use Rattle.tensor_values.specs.declared.operations.UnaryScalar.TheVariants as unary_scalar
use Rattle.tensor_values.specs.declared.operations.BinaryScalar.TheVariants as binary_scalar
use Rattle.tensor_values.specs.declared.reducer.Reducer.TheVariants as reducer

-- the term of an expression
abbrev pub term_of : Expr → Term
term_of (expr.Input n) = input n
term_of (expr.Neg' p a) = unary (each unary_scalar.Neg) (term_of a)
term_of (expr.Abs' p a) = unary (each unary_scalar.Abs) (term_of a)
term_of (expr.Square' p a) = unary (each unary_scalar.Square) (term_of a)
term_of (expr.Not' p a) = unary (each unary_scalar.Not) (term_of a)
term_of (expr.BitNot' p a) = unary (each unary_scalar.BitNot) (term_of a)
term_of (expr.BitCount' p a) = unary (each unary_scalar.BitCount) (term_of a)
term_of (expr.Add' p a q b) = binary (pairwise binary_scalar.Add) (term_of a) (term_of b)
term_of (expr.Sub' p a q b) = binary (pairwise binary_scalar.Sub) (term_of a) (term_of b)
term_of (expr.Mul' p a q b) = binary (pairwise binary_scalar.Mul) (term_of a) (term_of b)
term_of (expr.CwiseMax' p a q b) = binary (pairwise binary_scalar.CwiseMax) (term_of a) (term_of b)
term_of (expr.CwiseMin' p a q b) = binary (pairwise binary_scalar.CwiseMin) (term_of a) (term_of b)
term_of (expr.Lt' p a q b) = binary (pairwise binary_scalar.Lt) (term_of a) (term_of b)
term_of (expr.Le' p a q b) = binary (pairwise binary_scalar.Le) (term_of a) (term_of b)
term_of (expr.Eq' p a q b) = binary (pairwise binary_scalar.Eq) (term_of a) (term_of b)
term_of (expr.Ne' p a q b) = binary (pairwise binary_scalar.Ne) (term_of a) (term_of b)
term_of (expr.Gt' p a q b) = binary (pairwise binary_scalar.Gt) (term_of a) (term_of b)
term_of (expr.Ge' p a q b) = binary (pairwise binary_scalar.Ge) (term_of a) (term_of b)
term_of (expr.And' p a q b) = binary (pairwise binary_scalar.And) (term_of a) (term_of b)
term_of (expr.Or' p a q b) = binary (pairwise binary_scalar.Or) (term_of a) (term_of b)
term_of (expr.FloorDivide' p a q b) =
    binary (pairwise binary_scalar.FloorDivide) (term_of a) (term_of b)
term_of (expr.Remainder' p a q b) =
    binary (pairwise binary_scalar.Remainder) (term_of a) (term_of b)
term_of (expr.BitAnd' p a q b) = binary (pairwise binary_scalar.BitAnd) (term_of a) (term_of b)
term_of (expr.BitOr' p a q b) = binary (pairwise binary_scalar.BitOr) (term_of a) (term_of b)
term_of (expr.BitXor' p a q b) = binary (pairwise binary_scalar.BitXor) (term_of a) (term_of b)
term_of (expr.ShiftLeft' p a q b) =
    binary (pairwise binary_scalar.ShiftLeft) (term_of a) (term_of b)
term_of (expr.ShiftRight' p a q b) =
    binary (pairwise binary_scalar.ShiftRight) (term_of a) (term_of b)
term_of (expr.Select' p c q a r b) = ternary select (term_of c) (term_of a) (term_of b)
term_of (expr.Constant' p a v) = unary (constant v) (term_of a)
term_of (expr.Broadcast' p a counts) = unary (movement (broadcast counts.items)) (term_of a)
term_of (expr.Slice' p a offsets extents) =
    unary (movement (slice offsets.items extents.items)) (term_of a)
term_of (expr.Shuffle' p a order) = unary (movement (shuffle order.items)) (term_of a)
term_of (expr.Reshape' p a sizes) = unary (movement (reshape sizes.items)) (term_of a)
term_of (expr.Chip' p a offset axis) = unary (movement (chip offset axis)) (term_of a)
term_of (expr.Reverse' p a flags) = unary (movement (reverse flags.items)) (term_of a)
term_of (expr.Stride' p a steps) = unary (movement (stride steps.items)) (term_of a)
term_of (expr.Pad' p a pairs) = unary (pad pairs.items) (term_of a)
term_of (expr.Concat' p a q b axis) = binary (concat axis) (term_of a) (term_of b)
term_of (expr.Sum' p a axes) = unary (reduce reducer.Sum axes.items) (term_of a)
term_of (expr.Prod' p a axes) = unary (reduce reducer.Prod axes.items) (term_of a)
term_of (expr.Maximum' p a axes) = unary (reduce reducer.Max axes.items) (term_of a)
term_of (expr.Minimum' p a axes) = unary (reduce reducer.Min axes.items) (term_of a)
term_of (expr.All' p a axes) = unary (reduce reducer.All axes.items) (term_of a)
term_of (expr.Any' p a axes) = unary (reduce reducer.Any axes.items) (term_of a)
term_of (expr.Contract' p a q b pairs) = binary (contract pairs.items) (term_of a) (term_of b)
term_of (expr.Convolve' p a q b axes) = binary (convolve axes.items) (term_of a) (term_of b)
term_of (expr.Cumsum' p a axis) = unary (along line_operation.Cumsum axis) (term_of a)
term_of (expr.Cumprod' p a axis) = unary (along line_operation.Cumprod axis) (term_of a)
term_of (expr.Argmax' p a axis) = unary (along line_operation.Argmax axis) (term_of a)
term_of (expr.Argmin' p a axis) = unary (along line_operation.Argmin axis) (term_of a)
term_of (expr.Take' p a q b axis) = binary (taking axis) (term_of a) (term_of b)

-- the movement of a view
abbrev pub movement_at : MovementView → Movement
movement_at (move.Broadcast counts) = broadcast counts.now
movement_at (move.Slice offsets extents) = slice offsets.now extents.now
movement_at (move.Shuffle order) = shuffle order.now
movement_at (move.Reshape sizes) = reshape sizes.now
movement_at (move.Chip offset axis) = chip offset axis
movement_at (move.Reverse flags) = reverse flags.now
movement_at (move.Stride steps) = stride steps.now

-- the operation on one tensor of a view
abbrev pub unary_at : UnaryView → Unary
unary_at (one.Each o) = each o
unary_at (one.Constant v) = constant v
unary_at (one.Move m) = movement (movement_at m)
unary_at (one.Pad pairs) = pad pairs.now
unary_at (one.Reduce r axes) = reduce r axes.now
unary_at (one.Along o axis) = along o axis

-- the operation on two tensors of a view
abbrev pub binary_at : BinaryView → Binary
binary_at (two.Pairwise o) = pairwise o
binary_at (two.Concat axis) = concat axis
binary_at (two.Contract pairs) = contract pairs.now
binary_at (two.Convolve axes) = convolve axes.now
binary_at (two.Take axis) = taking axis

-- the operation on three tensors of a view
abbrev pub ternary_at : TernaryView → Ternary
ternary_at three.Select = select

-- the term of a view
abbrev pub term_at : Node → Term
term_at (node.Input n) = input n
term_at (node.Unary o a) = unary (unary_at o) (term_of a.now)
term_at (node.Binary o a b) = binary (binary_at o) (term_of a.now) (term_of b.now)
term_at (node.Ternary o a b c) =
    ternary (ternary_at o) (term_of a.now) (term_of b.now) (term_of c.now)
