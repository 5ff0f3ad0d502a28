-- The element is claimed with its job, and made empty.
use Rattle.std.proofs.Common.{rules, arith, subst, ◌<◌, ap, sym, ◌∙◌, ◌∷◌, Some}
use Rattle.atomic_table.specs.Table.{rest}
use Rattle.run_queue.proofs.Keeps.{claim_out_keeps, make_empty_keeps}
use Rattle.run_queue.proofs.slot_rows.SlotRows.pop_at.Goals as goal

pub compare_exchange-requires : goal.compare_exchange-requires
compare_exchange-requires g c =
    let held = c.args.held.now in
    let live : 0 < held.seat.me.0.parts = subst (λ k. 0 < k) (sym held.one_part) (omega arith) in (
      search rules,
      search rules,
      claim_out_keeps _ c.requires.known g.M.Shift.shift _ _ _ _ (omega arith) live held.none_busy held.none_owed,
    )

pub exchange-job-requires : goal.exchange-job-requires
exchange-job-requires g c =
    let did = c.compare_exchange.ensures.2.0 c.if-compare_exchange-ne-READY.false in (
      search rules,
      (Some did.0, did.2 ∙ (λ i. (c.args.element, Some did.0) ∷ sym (ap rest did.2) i)),
    )

pub store-requires : goal.store-requires
store-requires g c =
    let held = c.args.held.now in
    let did = c.compare_exchange.ensures.2.0 c.if-compare_exchange-ne-READY.false in
    let now = c.exchange-job.ensures.3 in
    let live : 0 < held.seat.me.0.parts = subst (λ k. 0 < k) (sym held.one_part) (omega arith) in (
      search rules,
      search rules,
      make_empty_keeps _ _ _ _ _ (omega arith)
          (subst (λ k. 0 < k) (sym (ap (λ m. m.0.parts) now ∙ ap (λ v. v.parts) did.1)) live)
          (ap (λ m. m.0.busy) now ∙ ap (λ v. v.busy) did.1) (ap (λ m. m.1) now),
    )
