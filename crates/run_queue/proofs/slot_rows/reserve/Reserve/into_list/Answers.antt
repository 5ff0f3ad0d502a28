-- The table's one slot has the list.
use Rattle.std.proofs.Common.{◌≡◌, ◌∙◌, false, get_or, ap, sym, subst, arith, vec_capacity}
use Rattle.std.specs.Mem.Slots.{slots_filled}
use mathlib.Core.Option.{some-injective}
use Rattle.run_queue.proofs.Closing.{emptied}
use Rattle.run_queue.proofs.slot_rows.reserve.Reserve.into_list.Goals as goal

pub take-list-requires : goal.take-list-requires
take-list-requires g c =
    let one = c.close-closed.ensures.counts.1 ∙ c.self.invariant in (
      omega (arith, one),
      c.close-closed.ensures.values.1 0 (omega arith) (omega (arith, one)),
    )

pub free-requires : goal.free-requires
free-requires g c k lt =
    let one = c.close-closed.ensures.counts.1 ∙ c.self.invariant in
    let others = c.take-list.ensures.others in
    subst (λ fs. get_or fs k false ≡ false) (sym others.1)
    (emptied (slots_filled c.close-closed.result.slots) 0 k
    (λ ne. absurd (omega (arith, others.2, one, ne))))

pub returns : goal.returns
returns g c =
    let last = c.close-closed.ensures.values.2 in
    let kept = last.1 in
    let same =
    some-injective c.take-list.result kept.0
    (sym c.take-list.ensures.value ∙ last.4 0 kept.0 kept.1) in
    record {
      none = ap (λ l. l.items) same ∙ kept.2;
      room = omega (arith, kept.3, ap vec_capacity same, c.self.view_is);
    }
