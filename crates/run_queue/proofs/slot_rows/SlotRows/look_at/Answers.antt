-- A look is always allowed.
use Rattle.std.proofs.Common.{rules, subst, ◌≡◌, ◌<◌, ◌∙◌, ap, sym, arith}
use Rattle.run_queue.specs.Views.{looked_at}
use Rattle.run_queue.proofs.Lengths.{look_keeps}
use Rattle.run_queue.proofs.slot_rows.SlotRows.look_at.Goals as goal

pub load-requires : goal.load-requires
load-requires g c =
    let live : 0 < c.args.held.now.seat.me.0.parts =
    subst (λ k. 0 < k) (sym c.args.held.now.one_part) (omega arith) in (
      search rules,
      search rules,
      rw c.requires.seats (look_keeps c.requires.counted _ _ _ _ c.args.row (omega (arith, c.requires.row))
          (omega arith) live),
    )

pub returns-clause-looked : goal.returns-clause-looked
returns-clause-looked g c =
    let told = c.load.ensures.2 in
    let same : told.0 ≡ c.args.row = omega (arith, told.1) in
    ap (λ v. v.notes) told.2
    ∙ ap (λ row. looked_at row c.load.result c.args.held.now.seat.me.0.notes) same
