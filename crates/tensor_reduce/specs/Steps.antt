-- The steps of a term: the nodes that become tensors of their own, children first.
use Rattle.std.specs.Prelude.{ℕ, ◌+◌, ◌^◌, ◌%◌, List, [], ◌∷◌, ◌++◌, length}
use Rattle.std.specs.Prelude.{Bool, true, false, not, ◌&&◌, ◌||◌, if◌then◌else◌}
use Rattle.tensor_ops.specs.Facts.{combines, combines_two}
use Rattle.tensor_ops.specs.Term.{Term, input, unary, binary, ternary}

-- a node, if it is a step
abbrev pub own : Bool → Term → List Term
own is_step t = if is_step then t ∷ [] else []

-- the nodes of an operand that are steps: each node that needs its operands as tensors, and each of
-- these operands that isn't an input. The operand itself is a step if it is needed whole
abbrev pub operand_nodes : Bool → Term → List Term
operand_nodes whole (input n) = []
operand_nodes whole (unary o a) =
    operand_nodes (combines o) a ++ own (whole || combines o) (unary o a)
operand_nodes whole (binary o a b) =
    operand_nodes (combines_two o) a ++ operand_nodes (combines_two o) b
    ++ own (whole || combines_two o) (binary o a b)
operand_nodes whole (ternary o a b c) =
    operand_nodes false a ++ operand_nodes false b ++ operand_nodes false c
    ++ own whole (ternary o a b c)

-- whether a term is an input
abbrev pub is_input : Term → Bool
is_input (input n) = true
is_input (unary o a) = false
is_input (binary o a b) = false
is_input (ternary o a b c) = false

-- the nodes of an expression that are steps. The root is the last, even if it is an input
abbrev pub step_nodes : Term → List Term
step_nodes t = if is_input t then t ∷ [] else operand_nodes true t

-- the number by which an expression names the tensor at a place, of 32 bits
abbrev pub number_of : ℕ → ℕ
number_of place = place % 2 ^ 32

-- an operand cut into steps: their terms, and the term that is left over the tensors of the steps
pub record Cut : Type 0 where
  pub steps : List Term
  pub left : Term

-- a node behind the steps of its operands, with before tensors in front of these: a step that is
-- then named by the number of its tensor, or a part of the node that has it as an operand
abbrev pub split_off : ℕ → Bool → List Term → Term → Cut
split_off before is_step steps t =
    if is_step
    then record { steps = steps ++ t ∷ []; left = input (number_of (before + length steps)) }
    else record { steps = steps; left = t }

-- an operand cut into steps, the operands of an operation from the left
abbrev pub cut : ℕ → Bool → Term → Cut
cut before whole (input n) = record { steps = []; left = input n }
cut before whole (unary o a) =
    let x = cut before (combines o) a in
    split_off before (whole || combines o) x.steps (unary o x.left)
cut before whole (binary o a b) =
    let x = cut before (combines_two o) a in
    let y = cut (before + length x.steps) (combines_two o) b in
    split_off before (whole || combines_two o) (x.steps ++ y.steps) (binary o x.left y.left)
cut before whole (ternary o a b c) =
    let x = cut before false a in
    let y = cut (before + length x.steps) false b in
    let z = cut (before + length x.steps + length y.steps) false c in
    split_off before whole (x.steps ++ y.steps ++ z.steps) (ternary o x.left y.left z.left)

-- the steps of an expression over the given number of inputs, as terms over the inputs and the
-- tensors of earlier steps
abbrev pub steps_of : ℕ → Term → List Term
steps_of inputs t = if is_input t then t ∷ [] else (cut inputs true t).steps

-- whether no operation of a term needs its operands as tensors
abbrev pub combines_nothing : Term → Bool
combines_nothing (input n) = true
combines_nothing (unary o a) = not (combines o) && combines_nothing a
combines_nothing (binary o a b) =
    not (combines_two o) && (combines_nothing a && combines_nothing b)
combines_nothing (ternary o a b c) =
    combines_nothing a && (combines_nothing b && combines_nothing c)

-- whether a term can be evaluated as one step: it is one operation on tensors that needs them as
-- tensors, or has no such operation
abbrev pub is_single : Term → Bool
is_single (input n) = true
is_single (unary o a) = if combines o then is_input a else combines_nothing a
is_single (binary o a b) =
    if combines_two o then is_input a && is_input b else combines_nothing a && combines_nothing b
is_single (ternary o a b c) =
    combines_nothing a && (combines_nothing b && combines_nothing c)
