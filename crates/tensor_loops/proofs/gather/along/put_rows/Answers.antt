use Rattle.std.proofs.Common.{◌+◌, ◌*◌, ◌/◌, length, get_or, refl, ap, sym, ◌∙◌, arith}
use Rattle.tensor_values.specs.Values.{value_in}
use Rattle.tensor_views.specs.View.{along, steps_to}
use Rattle.tensor_loops.proofs.CombinedRows.{rows-more}
use Rattle.tensor_views.proofs.Views.{along-row, mul-next, run-ended}
use Rattle.tensor_loops.proofs.gather.along.put_rows.Goals as goal

pub put_row-requires-clause-row : goal.put_row-requires-clause-row
put_row-requires-clause-row c =
    let inv = c.loop-start.invariant in
    record {
      whole = omega arith;
      inside = λ k below.
          let row =
          along-row c.args.rows.starts.now c.args.rows.axis c.args.first c.loop-start.start-index (c.loop-start.from + k)
          (c.args.first + c.loop-start.at + k)
          (omega (arith, below)) (omega (arith, below, inv.here (omega (arith, below)))) in
          rw (← row) (c.requires.inside (c.args.first + c.loop-start.at + k) (omega arith) (omega (arith, below)));
    }

pub loop-start-preserved : goal.loop-start-preserved
loop-start-preserved c =
    let inv = c.loop-start.invariant in
    let at = c.loop-start.at in
    let first = c.args.first in
    let axis = c.args.rows.axis in
    let rows = c.args.rows.starts.now in
    let list = c.args.list.now in
    let next = mul-next axis.size (first / axis.size) c.loop-start.start-index in
    record {
      below = omega arith;
      index = c.requires.size;
      here = λ more. omega (arith, next, inv.here (omega arith));
      len = c.put_row.ensures.len ∙ inv.len;
      each = rows-more (λ x y. y)
          (λ k. value_in list (along rows axis first (first + k)))
          (λ k. value_in list (get_or rows c.loop-start.start-index 0 + steps_to axis (c.loop-start.from + k) * axis.step))
          c.loop-start.values c.loop-start.values c.put_row.new.values at c.min-count.result
          inv.each (λ k above. refl) c.put_row.ensures.before c.put_row.ensures.each
          (λ k below. ap (value_in list) (sym
          (along-row rows axis first c.loop-start.start-index (c.loop-start.from + k) (first + (at + k))
          (omega (arith, below)) (omega (arith, below, inv.here (omega (arith, below)))))));
    }

pub returns-clause-each : goal.returns-clause-each
returns-clause-each c =
    let inv = c.loop-start.invariant in
    let ended = run-ended c.args.rows.axis.size c.args.first (c.args.first + length c.args.values.now) (c.args.first + c.loop-start.at) c.loop-start.from c.loop-start.start-index
    (length c.args.rows.starts.now) (omega arith) (λ more. inv.here (omega (arith, more))) (omega arith) c.requires.rows in
    λ k below. inv.each k (omega (arith, below, ended))
