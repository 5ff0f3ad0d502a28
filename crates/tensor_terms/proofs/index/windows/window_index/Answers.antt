use Rattle.std.proofs.Common.{◌-◌, length, ap, arith}
use Rattle.tensor_terms.proofs.index.windows.window_index.Goals as goal

pub offset_bounds-index-axis : goal.offset_bounds-index-axis
offset_bounds-index-axis c =
    omega (arith, c.requires.axes (c.loop-k.k - 1) (omega arith))

pub offset_bounds-deref_mut-axis : goal.offset_bounds-deref_mut-axis
offset_bounds-deref_mut-axis c =
    omega (arith, c.requires.axes (c.loop-k.k - 1) (omega arith))

pub bounds-deref_mut-axis : goal.bounds-deref_mut-axis
bounds-deref_mut-axis c =
    omega (
      arith,
      ap length c.deref_mut.ensures.value,
      c.loop-k.invariant.1,
      c.requires.axes (c.loop-k.k - 1) (omega arith),
    )
