-- The length is lowered once the seat has given the element back.
use Rattle.std.proofs.Common.{ap, ◌∙◌, rules, arith, subst, ◌<◌, sym}
use Rattle.run_queue.specs.Views.{owed_where}
use Rattle.run_queue.proofs.LengthKeeps.{lower_keeps}
use Rattle.run_queue.proofs.slot_rows.SlotRows.lower.Goals as goal

pub fetch_sub-requires : goal.fetch_sub-requires
fetch_sub-requires g c =
    let live : 0 < c.args.seat.now.me.0.parts =
    subst (λ k. 0 < k) (sym c.requires.one_part) (omega arith) in
    let is_on = c.if-not-have_lengths.false in (
      search rules,
      search rules,
      lower_keeps (sym c.have_lengths.ensures ∙ is_on) _ _ _ _ c.args.element c.requires.near (omega arith) live
          c.requires.given_back
          (c.requires.owed ∙ ap (λ counts. owed_where counts c.args.element)
          (sym c.have_lengths.ensures ∙ is_on)),
    )
