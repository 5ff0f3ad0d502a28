use Rattle.std.proofs.Common.{◌+◌, ◌-◌, ◌*◌, ◌/◌, length, get_or, sym, arith}
use Rattle.tensor_views.specs.View.{along, steps_to}
use Rattle.tensor_values.proofs.Runs.{row-more}
use Rattle.tensor_views.proofs.Views.{along-row, mul-next, run-ended}
use Rattle.tensor_views.proofs.run_places.add_rows.Goals as goal

pub loop-row-preserved : goal.loop-row-preserved
loop-row-preserved c =
    let inv = c.loop-row.invariant in
    let next = mul-next c.args.axis.size (c.args.first / c.args.axis.size) c.loop-row.row-index in
    record {
      above = omega arith;
      below = omega arith;
      index = c.requires.size;
      here = λ more. omega (arith, next, inv.here (omega arith));
      items =
          row-more (along c.args.rows.now c.args.axis c.args.first)
          (λ i. get_or c.args.rows.now c.loop-row.row-index 0 + steps_to c.args.axis i * c.args.axis.step)
          c.args.first c.loop-row.place c.loop-row.index c.min-count.result _ _ _ inv.above inv.items c.add_row.ensures.items
          (λ k below. sym
          (along-row c.args.rows.now c.args.axis c.args.first c.loop-row.row-index (c.loop-row.index + k) (c.loop-row.place + k)
          (omega arith) (omega (arith, inv.here (omega arith)))));
      room = omega (arith, c.add_row.ensures.len, c.add_row.ensures.capacity);
    }

pub add_row-requires-clause-fits : goal.add_row-requires-clause-fits
add_row-requires-clause-fits c = λ i above below.
    let inv = c.loop-row.invariant in
    let row =
    along-row c.args.rows.now c.args.axis c.args.first c.loop-row.row-index i (c.loop-row.place + (i - c.loop-row.index))
    (omega arith) (omega (arith, inv.here (omega arith))) in
    rw (← row) (c.requires.fits (c.loop-row.place + (i - c.loop-row.index)) (omega arith) (omega arith))

pub returns : goal.returns
returns c =
    let inv = c.loop-row.invariant in
    rw (← run-ended c.args.axis.size c.args.first c.args.last c.loop-row.place c.loop-row.index c.loop-row.row-index
    (length c.args.rows.now) (omega arith) inv.here inv.below c.requires.rows) inv.items
