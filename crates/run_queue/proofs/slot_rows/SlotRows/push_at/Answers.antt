-- The element is claimed, and made ready with the job.
use Rattle.std.proofs.Common.{rules, arith, subst, ◌<◌, ap, sym, ◌∙◌}
use Rattle.run_queue.specs.Views.{owed_where}
use Rattle.run_queue.proofs.Keeps.{claim_in_keeps, make_ready_keeps}
use Rattle.run_queue.proofs.slot_rows.SlotRows.push_at.Goals as goal

pub compare_exchange-requires : goal.compare_exchange-requires
compare_exchange-requires g c =
    let held = c.args.held.now in
    let live : 0 < held.seat.me.0.parts = subst (λ k. 0 < k) (sym held.one_part) (omega arith) in (
      search rules,
      search rules,
      claim_in_keeps g.M.Shift.shift _ _ _ _ (omega arith) live held.none_busy held.none_owed,
    )

pub store-requires : goal.store-requires
store-requires g c =
    let held = c.args.held.now in
    let did = c.compare_exchange.ensures.2.0 c.if-compare_exchange-ne-EMPTY.false in
    let up = c.raise.ensures.owes in
    let now = c.exchange-before.ensures.3 in
    let live : 0 < held.seat.me.0.parts = subst (λ k. 0 < k) (sym held.one_part) (omega arith) in (
      search rules,
      search rules,
      make_ready_keeps _ _ _ _ c.args.job _ (omega arith)
          (subst (λ k. 0 < k)
          (sym (ap (λ m. m.0.parts) now ∙ ap (λ v. v.parts) up ∙ ap (λ v. v.parts) did.0)) live)
          (ap (λ m. m.0.busy) now ∙ ap (λ v. v.busy) up ∙ ap (λ v. v.busy) did.0)
          (λ on. ap (λ m. m.0.owes) now ∙ ap (λ v. v.owes) up
          ∙ ap (λ counts. owed_where counts c.args.element) on)
          c.requires.fits
          (ap (λ m. m.1) now),
    )
