-- Operands of contractions: lists, and lists along views.
use Rattle.std.specs.Prelude.{ℕ, ℤ, length}
use Rattle.std.specs.Cow.{cow_slice_items}
use Rattle.tensor_values.specs.Values.{value_in}
use Rattle.tensor_views.specs.View.{view_size, reached}
use Rattle.tensor_ops.specs.declared.operands.operand.Operand.{Operand}
use Rattle.tensor_ops.specs.declared.operands.operand.Operand.TheVariants.{InOrder, Along}
use Rattle.tensor_ops.specs.declared.operands.operand.Viewed.{Viewed}

-- the number of places of a view of a list
abbrev pub viewed_count : Viewed → ℕ
viewed_count v = view_size v.view.axes.items

-- the value at place p of a view of a list
abbrev pub viewed_value : Viewed → ℕ → ℤ
viewed_value v p =
    value_in (cow_slice_items v.list) (reached v.view.start v.view.axes.items p)

-- the number of places of an operand
abbrev pub operand_count : Operand → ℕ
operand_count (InOrder values) = length (cow_slice_items values)
operand_count (Along viewed) = viewed_count viewed

-- the value at place p of an operand
abbrev pub operand_at : Operand → ℕ → ℤ
operand_at (InOrder values) p = value_in (cow_slice_items values) p
operand_at (Along viewed) p = viewed_value viewed p
