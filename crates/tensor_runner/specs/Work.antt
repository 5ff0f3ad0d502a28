-- The number of steps that a request takes. It follows from the dims alone, before any evaluation.
use Rattle.std.specs.Prelude.{ℕ, ◌+◌, ◌*◌, List, [], ◌∷◌, ◌++◌, Bool, if◌then◌else◌}
use Rattle.expr_reader.specs.Contents.{Contents}
use Rattle.expr_reader.specs.Index.{size_of}
use Rattle.expr_reader.specs.Request.{Asked, tensors_of}
use Rattle.expr_reader.specs.Result.{shape_of}
use Rattle.expr_reader.specs.Term.{Term, input, unary, binary, ternary}
use Rattle.expr_reader.specs.Term.{Unary, each, constant, movement, pad, reduce, along}
use Rattle.expr_reader.specs.Term.{Binary, pairwise, concat, contract, convolve, taking}
use Rattle.expr_reader.specs.Value.{tensor_of}
use Rattle.tensor_reduce.specs.Contraction.{firsts}
use Rattle.tensor_ops.specs.Facts.{combines, combines_two}
use Rattle.tensor_reduce.specs.Merged.{dims_at}

-- how many operations are computed for a place of an operation's result, given how many its
-- operands have. An operation that combines values has none: its operands are evaluated before, as
-- tensors of their own.
abbrev pub operations_over : Bool → ℕ → ℕ
operations_over combining below = if combining then 0 else 1 + below

-- how many operations are computed for a place of a term's tensor, down to inputs and to operands
-- that were evaluated before
abbrev pub operations : Term → ℕ
operations (input n) = 0
operations (unary o a) = operations_over (combines o) (operations a)
operations (binary o a b) = operations_over (combines_two o) (operations a + operations b)
operations (ternary o a b c) = 1 + (operations a + operations b + operations c)

-- the steps of an operation on one operand that combines values, and 0 for any other. `size` is the
-- size of the result, `ds` are the dims of the operand, and `below` is the number of operations for
-- each place of the operand. The operand is evaluated as a tensor of its own: `below` steps for
-- each of its places. Then there is a step for each place of the result, and for each value that is
-- combined.
abbrev pub unary_steps : Unary → ℕ → List ℕ → ℕ → ℕ
unary_steps (each o) size ds below = 0
unary_steps (constant v) size ds below = 0
unary_steps (movement m) size ds below = 0
unary_steps (pad pairs) size ds below = 0
unary_steps (reduce r axes) size ds below = size_of ds * below + (size + size_of ds)
unary_steps (along o axis) size ds below = size_of ds * below + (size + size_of ds)

-- the steps of an operation on two operands that combines values, and 0 for any other. `ds` and
-- `below` belong to the first operand, `es` and `beside` to the second. Both are evaluated as
-- tensors of their own. Then there is a step for each place of the result and, but for a take, for
-- each product.
abbrev pub binary_steps : Binary → ℕ → List ℕ → ℕ → List ℕ → ℕ → ℕ
binary_steps (pairwise o) size ds below es beside = 0
binary_steps (concat axis) size ds below es beside = 0
binary_steps (contract pairs) size ds below es beside =
    size_of ds * below + size_of es * beside
    + (size + size * size_of (dims_at (firsts pairs) ds))
binary_steps (convolve axes) size ds below es beside =
    size_of ds * below + size_of es * beside + (size + size * size_of es)
binary_steps (taking axis) size ds below es beside =
    size_of ds * below + size_of es * beside + size

module _ (inputs : List Contents) where
  -- how many places the tensor of a term has
  abbrev pub places : Term → ℕ
  places t = size_of (shape_of t inputs)

  -- the steps of all operations in a term that combine values
  abbrev pub combined : Term → ℕ
  combined (input n) = 0
  combined (unary o a) =
      combined a + unary_steps o (places (unary o a)) (shape_of a inputs) (operations a)
  combined (binary o a b) =
      combined a + combined b + binary_steps o (places (binary o a b))
      (shape_of a inputs) (operations a) (shape_of b inputs) (operations b)
  combined (ternary o a b c) = combined a + combined b + combined c

  -- the steps of a term: those of the operations that combine values, and the operations that are
  -- computed for each of its places
  abbrev pub steps_over : Term → ℕ
  steps_over t = combined t + places t * operations t

-- the steps of terms that are evaluated in order, each over the tensors and those of the terms
-- before it
abbrev pub steps_of_all : List Term → List Contents → ℕ
steps_of_all [] tensors = 0
steps_of_all (t ∷ terms) tensors =
    steps_over tensors t + steps_of_all terms (tensors ++ tensor_of t tensors ∷ [])

-- the steps of a request: of its bindings, and of its term over the inputs and the bindings'
-- tensors
abbrev pub steps_of : Asked → ℕ
steps_of a = steps_of_all a.bindings a.inputs + steps_over (tensors_of a) a.term
