use Rattle.std.proofs.Common.{ap, subst, inl}
use Rattle.event_count.specs.declared.rule.RowSizes.{RowSizes}
use Rattle.event_count.specs.declared.view.Card.{Card}
use Rattle.event_count.specs.Gains.{prewaiting}
use Rattle.event_count.specs.Rows.Seats.{row_sizes_of}
use Rattle.event_count.specs.Seats.{card_of}
use Rattle.waking_rows.specs.Points.{LeavesForJobs}
use Rattle.waking_rows.proofs.row_point.RowPoint.rest.Goals as goal

pub returns-in-Jobs-clause-rests : goal.returns-in-Jobs-clause-rests
returns-in-Jobs-clause-rests g c =
    let sizes = ap row_sizes_of c.deref-2.ensures in
    let row = c.in-Jobs.row in
    let entered = prewaiting (card_of c.args.waiter.now.seat) in
    let end = card_of c.cancel.new.seat in
    inl (subst (λ (k : RowSizes). LeavesForJobs k.rows row entered end) sizes
    (subst (λ (d : Card). LeavesForJobs (row_sizes_of c.deref-2.result.now).rows row d end)
    c.prewait.ensures.card (
      card_of c.pass_all.new.seat,
      c.in-Jobs.ensures.answer,
      c.in-Jobs.ensures.same,
      c.cancel.ensures.answer,
    )))
