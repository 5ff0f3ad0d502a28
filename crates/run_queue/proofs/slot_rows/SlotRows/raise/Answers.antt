-- The length is raised while the seat works on an element of the row.
use Rattle.std.proofs.Common.{rules, arith, subst, ◌<◌, ap, sym, ◌∙◌}
use Rattle.run_queue.specs.Views.{owing, owed_where}
use Rattle.run_queue.proofs.LengthKeeps.{raise_keeps}
use Rattle.run_queue.proofs.slot_rows.SlotRows.raise.Goals as goal

pub fetch_add-requires : goal.fetch_add-requires
fetch_add-requires g c =
    let live : 0 < c.args.seat.now.me.0.parts =
    subst (λ k. 0 < k) (sym c.requires.one_part) (omega arith) in
    let is_on = c.if-not-have_lengths.false in (
      search rules,
      search rules,
      raise_keeps (sym c.have_lengths.ensures ∙ is_on) _ _ _ _ c.args.element c.requires.near (omega arith) live
          c.requires.works c.requires.none_owed,
    )

pub returns-clause-owes : goal.returns-clause-owes
returns-clause-owes g c =
    let is_on = sym c.have_lengths.ensures ∙ c.if-not-have_lengths.false in
    c.fetch_add.ensures.2.4 ∙ ap (owing c.args.seat.now.me.0) c.requires.works
    ∙ ap (λ counts. owing c.args.seat.now.me.0 (owed_where counts c.args.element)) (sym is_on)
