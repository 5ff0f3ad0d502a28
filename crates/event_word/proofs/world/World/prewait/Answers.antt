use Rattle.std.proofs.Common.{false, replicate, refl, sym, ap, subst, ◌∙◌, arith, length-set}
use Rattle.event_word.specs.Step.{Possible}
use Rattle.event_word.specs.declared.event.Event.TheVariants.{Prewait}
use Rattle.event_word.proofs.Stored.{stored_step, room_to_prewait, prewait_view}
use Rattle.event_word.proofs.Passing.{rows_set, rows_long}
use Rattle.event_word.proofs.Taken.{stepped}
use Rattle.event_word.proofs.world.World.prewait.Goals as goal

pub push_reserved-requires : goal.push_reserved-requires
push_reserved-requires g c =
    let i = c.self.inside in let s = c.self.invariant in
    let p = subst (λ w. Possible w (Prewait c.args.seat)) (sym c.self.view_is)
    (c.is_quiet_seat.ensures.0 c.if-not-is_quiet_seat.false) in
    room_to_prewait i s c.args.seat p

pub invariant_of-self : goal.invariant_of-self
invariant_of-self g c =
    let i = c.self.inside in let s = c.self.invariant in
    let p = subst (λ w. Possible w (Prewait c.args.seat)) (sym c.self.view_is)
    (c.is_quiet_seat.ensures.0 c.if-not-is_quiet_seat.false) in
    stored_step i s _ (Prewait c.args.seat) p
    (prewait_view i s c.args.seat _ _ _ c.from-place.ensures
    (rows_set i s c.args.seat _ c.clear.new.list _ c.from-place.ensures (c.clear.ensures
    ∙ ap (λ n. replicate n false) (rows_long i s c.args.seat _ c.index_mut-3.result.now p.0
    c.from-place.ensures c.index_mut-3.ensures.value))) c.push_reserved.ensures.items)
    (record {
      workers = length-set i.phases.items _ _;
      notifiers = refl;
      pre = omega (arith, c.push_reserved.ensures.capacity);
      stack = omega arith;
      owed = omega arith;
      known = s.known;
    })

pub returns : goal.returns
returns g c =
    let i = c.self.inside in let s = c.self.invariant in
    let p = subst (λ w. Possible w (Prewait c.args.seat)) (sym c.self.view_is)
    (c.is_quiet_seat.ensures.0 c.if-not-is_quiet_seat.false) in
    stepped i _ _ (Prewait c.args.seat) c.self.view_is p
    (prewait_view i s c.args.seat _ _ _ c.from-place.ensures
    (rows_set i s c.args.seat _ c.clear.new.list _ c.from-place.ensures (c.clear.ensures
    ∙ ap (λ n. replicate n false) (rows_long i s c.args.seat _ c.index_mut-3.result.now p.0
    c.from-place.ensures c.index_mut-3.ensures.value))) c.push_reserved.ensures.items)
