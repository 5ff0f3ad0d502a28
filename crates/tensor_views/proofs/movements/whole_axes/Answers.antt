use Rattle.std.proofs.Common.{◌≡◌, arith}
use Rattle.std.proofs.lemmas.Grind.{common_steps}
use Rattle.tensor_views.specs.Axes.{axes_from}
use Rattle.tensor_shape.proofs.Sizes.{mul-le-bulk_of, size_of-le-bulk_of}
use Rattle.tensor_views.proofs.AxisLists.{axes_from-at, axes_from-short, length-axes_from}
use Rattle.tensor_views.proofs.movements.whole_axes.Goals as goal

pub overflow_mul-step : goal.overflow_mul-step
overflow_mul-step c =
    omega (arith, mul-le-bulk_of c.loop-size.step _ c.as_slice-sizes.result.now c.loop-size.size-index (omega arith) c.loop-size.invariant.few)

pub loop-size-preserved : goal.loop-size-preserved
loop-size-preserved c =
    let next = axes_from-at c.loop-size.step c.as_slice-sizes.result.now c.loop-size.size-index (omega arith) in
    grind (arith, common_steps, next)

pub returns-clause-few : goal.returns-clause-few
returns-clause-few c =
    omega (arith, c.as_slice-sizes.ensures.legal.elements, size_of-le-bulk_of c.args.dims.now)

pub returns-clause-short : goal.returns-clause-short
returns-clause-short c =
    let items : c.loop-size.axes.items ≡ axes_from 1 c.args.dims.now = grind (arith, common_steps) in
    rw items (λ k within. omega (
      arith,
      axes_from-short 1 c.args.dims.now k (omega (arith, length-axes_from 1 c.args.dims.now)),
      c.as_slice-sizes.ensures.legal.elements,
    ))
