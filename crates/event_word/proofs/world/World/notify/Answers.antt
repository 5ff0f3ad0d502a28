use Rattle.std.proofs.Common.{◌<◌, ◌≤◌, ◌∷◌, [], length, refl, sym, ap, ◌∙◌, arith}
use Rattle.std.proofs.lemmas.Bool.{eqb-true, eqb-false}
use Rattle.std.proofs.lemmas.List.{nil_from_length}
use Rattle.event_word.proofs.Lists.{front-remove}
use Rattle.event_word.proofs.Stored.{stored_step, free_known, room_to_owe}
use Rattle.event_word.proofs.Taken.{free_same}
use Rattle.event_word.proofs.Stored.{signal_view, pop_view, nothing_view, known_more}
use Rattle.event_word.proofs.Taken.{stepped}
use Rattle.event_word.specs.declared.event.Event.TheVariants.{Notify}
use Rattle.event_word.proofs.world.World.notify.Goals as goal

pub push_reserved-requires : goal.push_reserved-requires
push_reserved-requires g c =
    let i = c.self.inside in let s = c.self.invariant in
    room_to_owe i s (omega (
      arith,
      eqb-false _ _ (sym c.is_empty.ensures ∙ c.if-not-is_empty.true),
      i.stack.ok.0,
    ))

pub invariant_of-self-then-not-is_empty : goal.invariant_of-self-then-not-is_empty
invariant_of-self-then-not-is_empty g c =
    let i = c.self.inside in let s = c.self.invariant in
    let free = free_same _ _ _ _ c.self.view_is refl (c.is_free.ensures.0 c.if-not-is_free.false) in
    let lt = free_known i s c.args.actor free in
    let le : length i.pre.items ≤ i.signals =
    omega (arith, c.if-self-len.false, c.len.ensures, i.pre.ok.0) in
    let some : 0 < length i.stack.items =
    omega (
      arith,
      eqb-false _ _ (sym c.is_empty.ensures ∙ c.if-not-is_empty.true),
      i.stack.ok.0,
    ) in
    let top = front-remove i.stack.items c.remove-seat.result some c.remove-seat.ensures.value
    ∙ ap (λ xs. c.remove-seat.result ∷ xs) (sym c.remove-seat.ensures.items) in
    stored_step i s _ (Notify c.args.actor) free
    (pop_view i s c.args.actor c.remove-seat.result _ _ lt le top c.push_reserved.ensures.items)
    (record {
      workers = refl;
      notifiers = refl;
      pre = omega arith;
      stack = omega (arith, c.remove-seat.ensures.capacity);
      owed = omega (arith, c.push_reserved.ensures.capacity);
      known = known_more i s c.args.actor
          (c.remove-seat.result ∷ []) _ lt c.push_reserved.ensures.items;
    })

pub returns-then-self-len : goal.returns-then-self-len
returns-then-self-len g c =
    let i = c.self.inside in let s = c.self.invariant in
    let free = free_same _ _ _ _ c.self.view_is refl (c.is_free.ensures.0 c.if-not-is_free.false) in
    stepped i _ _ (Notify c.args.actor) c.self.view_is free
    (signal_view i s c.args.actor _
    (omega (arith, c.if-self-len.true, c.len.ensures, i.pre.ok.0)) refl)

pub returns-then-not-is_empty : goal.returns-then-not-is_empty
returns-then-not-is_empty g c =
    let i = c.self.inside in let s = c.self.invariant in
    let free = free_same _ _ _ _ c.self.view_is refl (c.is_free.ensures.0 c.if-not-is_free.false) in
    let lt = free_known i s c.args.actor free in
    let le : length i.pre.items ≤ i.signals =
    omega (arith, c.if-self-len.false, c.len.ensures, i.pre.ok.0) in
    let some : 0 < length i.stack.items =
    omega (
      arith,
      eqb-false _ _ (sym c.is_empty.ensures ∙ c.if-not-is_empty.true),
      i.stack.ok.0,
    ) in
    let top = front-remove i.stack.items c.remove-seat.result some c.remove-seat.ensures.value
    ∙ ap (λ xs. c.remove-seat.result ∷ xs) (sym c.remove-seat.ensures.items) in
    stepped i _ _ (Notify c.args.actor) c.self.view_is free
    (pop_view i s c.args.actor c.remove-seat.result _ _ lt le top c.push_reserved.ensures.items)

pub returns-else-not-is_empty : goal.returns-else-not-is_empty
returns-else-not-is_empty g c =
    let i = c.self.inside in let s = c.self.invariant in
    let free = free_same _ _ _ _ c.self.view_is refl (c.is_free.ensures.0 c.if-not-is_free.false) in
    let le : length i.pre.items ≤ i.signals =
    omega (arith, c.if-self-len.false, c.len.ensures, i.pre.ok.0) in
    let none = nil_from_length i.stack.items
    (omega (
      arith,
      eqb-true _ _ (sym c.is_empty.ensures ∙ c.if-not-is_empty.false),
      i.stack.ok.0,
    )) in
    stepped i _ _ (Notify c.args.actor) c.self.view_is free
    (nothing_view i s c.args.actor le none)
