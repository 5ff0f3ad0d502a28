use Rattle.std.proofs.Common.{◌++◌, length, map, refl, ap, ◌∙◌, arith}
use Rattle.event_word.specs.Debts.{debt}
use Rattle.event_word.proofs.Stored.{stored_step, free_known, room_to_owe_all}
use Rattle.event_word.proofs.Taken.{free_same}
use Rattle.event_word.proofs.Stored.{notify_all_view, known_more}
use Rattle.event_word.proofs.Taken.{stops_now, stops_not, stepped}
use Rattle.event_word.specs.declared.event.Event.TheVariants.{NotifyAll}
use Rattle.event_word.proofs.world.World.notify_all.Goals as goal

pub owe_all-requires : goal.owe_all-requires
owe_all-requires g c =
    let i = c.self.inside in let s = c.self.invariant in
    omega (arith, room_to_owe_all i s, ap length c.deref.ensures.value)

pub invariant_of-self : goal.invariant_of-self
invariant_of-self g c =
    let i = c.self.inside in let s = c.self.invariant in
    let free = free_same _ _ _ _ c.self.view_is refl (c.is_free.ensures.0 c.if-not-is_free.false) in
    let lt = free_known i s c.args.actor free in
    let debts = c.owe_all.ensures.items
    ∙ ap (λ xs. i.owed.items ++ map (debt c.args.actor) xs) c.deref.ensures.value in
    stored_step i s _ (NotifyAll c.args.actor) free
    (notify_all_view i s c.args.actor _ _ _ _ lt (c.len.ensures
    ∙ i.pre.ok.0) c.clear.ensures.items (stops_now i.stop c.if-self-eq1.true) debts)
    (record {
      workers = refl;
      notifiers = refl;
      pre = omega arith;
      stack = omega (arith, c.clear.ensures.capacity);
      owed = omega (arith, c.owe_all.ensures.capacity);
      known = known_more i s c.args.actor i.stack.items _ lt debts;
    })

pub invariant_of-self-else-self-eq1 : goal.invariant_of-self-else-self-eq1
invariant_of-self-else-self-eq1 g c =
    let i = c.self.inside in let s = c.self.invariant in
    let free = free_same _ _ _ _ c.self.view_is refl (c.is_free.ensures.0 c.if-not-is_free.false) in
    let lt = free_known i s c.args.actor free in
    let debts = c.owe_all.ensures.items
    ∙ ap (λ xs. i.owed.items ++ map (debt c.args.actor) xs) c.deref.ensures.value in
    stored_step i s _ (NotifyAll c.args.actor) free
    (notify_all_view i s c.args.actor _ _ _ _ lt (c.len.ensures
    ∙ i.pre.ok.0) c.clear.ensures.items (stops_not i.stop c.if-self-eq1.false) debts)
    (record {
      workers = refl;
      notifiers = refl;
      pre = omega arith;
      stack = omega (arith, c.clear.ensures.capacity);
      owed = omega (arith, c.owe_all.ensures.capacity);
      known = known_more i s c.args.actor i.stack.items _ lt debts;
    })

pub returns-then-self-eq1 : goal.returns-then-self-eq1
returns-then-self-eq1 g c =
    let i = c.self.inside in let s = c.self.invariant in
    let free = free_same _ _ _ _ c.self.view_is refl (c.is_free.ensures.0 c.if-not-is_free.false) in
    let lt = free_known i s c.args.actor free in
    let debts = c.owe_all.ensures.items
    ∙ ap (λ xs. i.owed.items ++ map (debt c.args.actor) xs) c.deref.ensures.value in
    stepped i _ _ (NotifyAll c.args.actor) c.self.view_is free
    (notify_all_view i s c.args.actor _ _ _ _ lt (c.len.ensures
    ∙ i.pre.ok.0) c.clear.ensures.items (stops_now i.stop c.if-self-eq1.true) debts)

pub returns-else-self-eq1 : goal.returns-else-self-eq1
returns-else-self-eq1 g c =
    let i = c.self.inside in let s = c.self.invariant in
    let free = free_same _ _ _ _ c.self.view_is refl (c.is_free.ensures.0 c.if-not-is_free.false) in
    let lt = free_known i s c.args.actor free in
    let debts = c.owe_all.ensures.items
    ∙ ap (λ xs. i.owed.items ++ map (debt c.args.actor) xs) c.deref.ensures.value in
    stepped i _ _ (NotifyAll c.args.actor) c.self.view_is free
    (notify_all_view i s c.args.actor _ _ _ _ lt (c.len.ensures
    ∙ i.pre.ok.0) c.clear.ensures.items (stops_not i.stop c.if-self-eq1.false) debts)
