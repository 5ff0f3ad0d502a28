-- Schedules that give the tensor of a term.
use Rattle.std.specs.Prelude.{◌≡◌, ◌<◌, ℕ, max, Bool, true, false, IsTrue}
use Rattle.tensor_ops.specs.LineOperation.{LineOperation}
use Rattle.tensor_ops.specs.LineOperation.TheVariants.{Cumsum, Cumprod, Argmax, Argmin}
use Rattle.tensor_ops.specs.Parts.{has_parts}
use Rattle.tensor_ops.specs.Facts.{is_combining}
use Rattle.tensor_ops.specs.Term.{Term, input, unary, binary, ternary}
use Rattle.tensor_ops.specs.Term.{Unary, each, constant, movement, pad, reduce, along}
use Rattle.tensor_reduce.specs.declared.schedule.Schedule.{Schedule}
use Rattle.tensor_reduce.specs.declared.schedule.Schedule.TheVariants.{Sharded, Ranged}

-- in shards if the term's values have parts, or by ranges, with at least one place in a leaf
abbrev pub IsScheduleFor : Schedule → Term → Type 0
IsScheduleFor (Sharded sharding) t = IsTrue (has_parts t)
IsScheduleFor (Ranged workers leaf) t = 0 < leaf

-- a schedule of a term that needs its operands as tensors, so that operands may be fused into it
abbrev pub IsFusingFor : Schedule → Term → Type 0
IsFusingFor (Sharded sharding) t = IsTrue (has_parts t)
IsFusingFor (Ranged workers leaf) t = IsTrue (is_combining t) × (0 < leaf)

-- whether an operation along an axis combines each value with all values before it
abbrev pub combines_before : LineOperation → Bool
combines_before Cumsum = true
combines_before Cumprod = true
combines_before Argmax = false
combines_before Argmin = false

-- whether an operation on one operand is such an operation
abbrev pub is_cumulative_in : Unary → Bool
is_cumulative_in (each o) = false
is_cumulative_in (constant v) = false
is_cumulative_in (movement m) = false
is_cumulative_in (pad pairs) = false
is_cumulative_in (reduce r axes) = false
is_cumulative_in (along o axis) = combines_before o

-- whether the last operation of a term is such an operation
abbrev pub is_cumulative : Term → Bool
is_cumulative (input n) = false
is_cumulative (unary o a) = is_cumulative_in o
is_cumulative (binary o a b) = false
is_cumulative (ternary o a b c) = false

-- a schedule by which one worker evaluates all values in one leaf
abbrev pub IsOneLeaf : ℕ → Schedule → Type 0
IsOneLeaf values (Sharded sharding) = ⊥
IsOneLeaf values (Ranged workers leaf) = (workers ≡ 1) × (leaf ≡ max 1 values)
