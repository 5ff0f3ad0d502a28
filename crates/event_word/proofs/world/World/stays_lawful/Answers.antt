use Rattle.std.proofs.Common.{◌+◌, length, sym, subst}
use Rattle.event_word.specs.Lawful.{Lawful, HasSizes}
use Rattle.event_word.specs.Stored.{world_view}
use Rattle.event_word.specs.World.{World}
use Rattle.event_word.proofs.Owing.{length-owed_lists}
use Rattle.event_word.proofs.world.World.stays_lawful.Goals as goal

pub returns-clause-lawful : goal.returns-clause-lawful
returns-clause-lawful g c = subst Lawful c.self.view_is c.self.invariant.lawful

pub returns-clause-sizes : goal.returns-clause-sizes
returns-clause-sizes g c =
    let i = c.self.inside in
    subst (λ (w : World). HasSizes (length w.phases) (length w.owed) (length w.lengths) w)
    c.self.view_is (subst
    (λ n. HasSizes (length i.phases.items) n (length i.lengths.items) (world_view i))
    (sym (length-owed_lists (length i.phases.items + i.notifiers) i.owed.items))
    c.self.invariant.sizes)
