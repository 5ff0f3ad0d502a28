use Rattle.std.proofs.Common.{rules, ◌≡◌, ◌∙◌, ◌+◌, suc, ap, refl, arith}
use Rattle.event_count.specs.Seats.{card_of}
use Rattle.event_count.specs.Rows.Gains.{passing}
use Rattle.waking_rows.specs.Points.{passing_rows}
use Rattle.waking_rows.proofs.Passes.{has_now}
use Rattle.waking_rows.proofs.row_point.RowPoint.row_with_jobs.Goals as goal

pub loop-row-init : goal.loop-row-init
loop-row-init g c = record {
  ours = refl;
  pre = c.requires.pre;
  same = search rules;
  none = record { looked = refl; passed = λ row less. absurd (omega arith) };
}

pub loop-row-preserved : goal.loop-row-preserved
loop-row-preserved g c =
    let before = c.loop-row.invariant in
    let row = c.loop-row.row in
    let more : suc row ≡ row + 1 = omega arith in
    let none : c.pass.result ≡ 0 = omega (arith, c.if-pass-ne0.false) in
    record {
      ours = search rules;
      pre = search rules;
      same = search rules;
      none = record {
        looked = c.pass.ensures.card
            ∙ ((λ i. passing (before.none.looked i) row (none i))
            ∙ ap (λ n. passing_rows n (card_of c.args.seat.now)) more);
        passed = λ other less. has_now _ _ row _ c.pass.ensures.card none (c.pass.ensures.passed none)
            (before.none.passed) other less;
      };
    }
