use Rattle.std.proofs.Common.{◌<◌, ◌+◌, length, slice_get, sym, ap, ◌∙◌, subst, arith}
use Rattle.event_word.specs.Debts.{seats_owed}
use Rattle.event_word.specs.World.{World, owed_by}
use Rattle.event_word.proofs.Owing.{length-owed_lists}
use Rattle.event_word.proofs.Stored.{owed_by-view}
use Rattle.event_word.proofs.world.World.owed.Goals as goal

pub returns : goal.returns
returns g c =
    let i = c.self.inside in let s = c.self.invariant in
    let known = subst (λ (w : World). c.args.actor < length w.owed)
    (sym c.self.view_is) c.requires in
    let lt : c.args.actor < length i.phases.items + i.notifiers =
    omega (arith, known, length-owed_lists (length i.phases.items + i.notifiers) i.owed.items)
    in
    c.nth_owed.ensures
    ∙ ap (λ xs. slice_get xs c.args.place) (ap (seats_owed c.args.actor) c.deref.ensures.value
    ∙ (sym (owed_by-view i s c.args.actor lt)
    ∙ ap (λ w. owed_by w c.args.actor) c.self.view_is))
