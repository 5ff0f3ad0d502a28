use Rattle.std.proofs.Common.{◌-◌, min, refl, ap, ◌∙◌, arith, length-set}
use Rattle.event_word.specs.declared.phase.Phase.TheVariants.{Pre}
use Rattle.event_word.proofs.Stored.{stored_step, cancel_view}
use Rattle.event_word.proofs.Taken.{phase_found}
use Rattle.event_word.specs.declared.event.Event.TheVariants.{Cancel}
use Rattle.event_word.proofs.world.World.cancel.Goals as goal

pub invariant_of-self : goal.invariant_of-self
invariant_of-self g c =
    let i = c.self.inside in let s = c.self.invariant in
    let at = phase_found i.phases.items _ c.args.seat _ Pre c.deref.ensures.value
    c.from-place.ensures (c.is_in.ensures.0 c.if-not-is_in.false) in
    stored_step i s _ (Cancel c.args.seat) at
    (cancel_view i s c.args.seat _ _ _ at c.from-place.ensures (c.min-self-inside.ensures
    ∙ ap (λ n. min i.signals (n - 1)) (c.len.ensures ∙ i.pre.ok.0)) c.take_out.ensures.items)
    (record {
      workers = length-set i.phases.items _ _;
      notifiers = refl;
      pre = omega (arith, c.take_out.ensures.capacity);
      stack = omega arith;
      owed = omega arith;
      known = s.known;
    })
