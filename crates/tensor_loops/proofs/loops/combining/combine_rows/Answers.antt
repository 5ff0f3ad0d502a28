use Rattle.std.proofs.Common.{◌≡◌, ◌+◌, ◌-◌, ◌*◌, ◌/◌, length, get_or, ap, sym, ◌∙◌, arith}
use Rattle.tensor_loops.specs.Loops.{either_way}
use Rattle.tensor_values.specs.Values.{value_in}
use Rattle.tensor_views.specs.View.{along, steps_to}
use Rattle.tensor_loops.proofs.CombinedRows.{rows-more}
use Rattle.tensor_views.proofs.Views.{along-row, mul-next, run-ended}
use Rattle.tensor_loops.proofs.loops.combining.combine_rows.Goals as goal

pub combine_row-requires-clause-row : goal.combine_row-requires-clause-row
combine_row-requires-clause-row c =
    let inv = c.loop-start.invariant in
    record {
      whole = omega arith;
      inside = λ k below.
          let row =
          along-row c.args.rows.now c.args.axis c.args.first c.loop-start.start-index (c.loop-start.from + k) (c.loop-start.place + k)
          (omega (arith, below)) (omega (arith, below, inv.here (omega (arith, below)))) in
          rw (← row) (c.requires.inside (c.loop-start.place + k) (omega arith) (omega (arith, below)));
    }

pub loop-start-preserved : goal.loop-start-preserved
loop-start-preserved c =
    let inv = c.loop-start.invariant in
    let place = c.loop-start.place in
    let first = c.args.first in
    let axis = c.args.axis in
    let next = mul-next axis.size (first / axis.size) c.loop-start.start-index in
    let long : place + c.min-count.result - first ≡ place - first + c.min-count.result = omega arith in
    record {
      above = omega arith;
      below = omega arith;
      index = c.requires.size;
      here = λ more. omega (arith, next, inv.here (omega arith));
      len = c.combine_row.ensures.len ∙ inv.len;
      each = rw long
          (rows-more (either_way c.args.link.operation c.args.link.swapped)
          (λ k. value_in c.args.list.now (along c.args.rows.now axis first (first + k)))
          (λ k. value_in c.args.list.now (get_or c.args.rows.now c.loop-start.start-index 0 + steps_to axis (c.loop-start.from + k) * axis.step))
          c.args.values.now c.loop-start.values c.combine_row.new.values (place - first) c.min-count.result
          inv.each inv.after c.combine_row.ensures.before c.combine_row.ensures.each
          (λ k below. ap (value_in c.args.list.now) (sym
          (along-row c.args.rows.now axis first c.loop-start.start-index (c.loop-start.from + k) (first + (place - first + k))
          (omega (arith, below)) (omega (arith, below, inv.here (omega (arith, below))))))));
      after = λ k above. c.combine_row.ensures.after k (omega (arith, above)) ∙ inv.after k (omega (arith, above));
    }

pub returns-clause-each : goal.returns-clause-each
returns-clause-each c =
    let inv = c.loop-start.invariant in
    rw (← run-ended c.args.axis.size c.args.first c.args.last c.loop-start.place c.loop-start.from c.loop-start.start-index
    (length c.args.rows.now) (omega arith) inv.here inv.below c.requires.rows) inv.each
