use Rattle.std.proofs.Common.{◌≡◌, ◌+◌, ◌-◌, arith}
use Rattle.tensor_shape.proofs.Places.{length-IsIndexOf, place-drop, place-drop-below}
use Rattle.tensor_shape.proofs.dims.place_of.Goals as goal

pub bounds-index-axis : goal.bounds-index-axis
bounds-index-axis c = omega (arith, length-IsIndexOf _ _ c.requires.index)

pub overflow_mul-place : goal.overflow_mul-place
overflow_mul-place c =
    let next : c.loop-axis.axis - 1 + 1 ≡ c.loop-axis.axis = omega arith in
    let below = rw next at (place-drop-below c.args.sizes.now c.args.index.now (c.loop-axis.axis - 1) c.requires.index (omega arith)) in
    grind (arith, below)

pub overflow_add-place : goal.overflow_add-place
overflow_add-place c =
    let next : c.loop-axis.axis - 1 + 1 ≡ c.loop-axis.axis = omega arith in
    let below = rw next at (place-drop-below c.args.sizes.now c.args.index.now (c.loop-axis.axis - 1) c.requires.index (omega arith)) in
    grind (arith, below)

pub loop-axis-preserved : goal.loop-axis-preserved
loop-axis-preserved c =
    let next : c.loop-axis.axis - 1 + 1 ≡ c.loop-axis.axis = omega arith in
    let step = rw next at (place-drop c.args.sizes.now c.args.index.now (c.loop-axis.axis - 1) c.requires.index (omega arith)) in
    grind (arith, step)
