use Rattle.std.proofs.Common.{◌<◌, ◌==◌, length, position, refl, sym, ap, ◌∙◌, arith}
use Rattle.event_word.specs.World.{owed_by}
use Rattle.event_word.specs.Stored.{world_view}
use Rattle.event_word.proofs.Stored.{stored_step, unpark_view, owes_nothing_from}
use Rattle.event_word.proofs.Taken.{stepped, refused}
use Rattle.event_word.specs.declared.event.Event.TheVariants.{Unpark}
use Rattle.event_word.proofs.world.World.unpark.Goals as goal

pub returns-in_default : goal.returns-in_default
returns-in_default g c =
    let i = c.self.inside in let s = c.self.invariant in
    let none = owes_nothing_from i s c.args.actor
    (ap (λ ds. position (λ d. d.actor == c.args.actor) ds) (sym c.deref.ensures.value)
    ∙ (sym c.first_owed.ensures ∙ c.in_default.is)) in
    refused i _ (Unpark c.args.actor) c.self.view_is (λ some. omega (arith, ap length none))

pub index_mut-requires : goal.index_mut-requires
index_mut-requires g c =
    let i = c.self.inside in let s = c.self.invariant in
    let u = unpark_view i s c.args.actor c.in-Some.place c.from.result c.remove-debt.result _
    (ap (λ ds. position (λ d. d.actor == c.args.actor) ds) (sym c.deref.ensures.value)
    ∙ (sym c.first_owed.ensures ∙ c.in-Some.is)) c.remove-debt.ensures.value c.from.ensures
    c.remove-debt.ensures.items in
    omega (arith, u.1, i.tokens.ok.0)

pub invariant_of-self : goal.invariant_of-self
invariant_of-self g c =
    let i = c.self.inside in let s = c.self.invariant in
    let u = unpark_view i s c.args.actor c.in-Some.place c.from.result c.remove-debt.result _
    (ap (λ ds. position (λ d. d.actor == c.args.actor) ds) (sym c.deref.ensures.value)
    ∙ (sym c.first_owed.ensures ∙ c.in-Some.is)) c.remove-debt.ensures.value c.from.ensures
    c.remove-debt.ensures.items in
    let p : 0 < length (owed_by (world_view i) c.args.actor) = omega (arith, ap length u.0) in
    stored_step i s _ (Unpark c.args.actor) p u.3
    (record {
      workers = refl;
      notifiers = refl;
      pre = omega arith;
      stack = omega arith;
      owed = omega (arith, c.remove-debt.ensures.capacity);
      known = u.2;
    })

pub returns : goal.returns
returns g c =
    let i = c.self.inside in let s = c.self.invariant in
    let u = unpark_view i s c.args.actor c.in-Some.place c.from.result c.remove-debt.result _
    (ap (λ ds. position (λ d. d.actor == c.args.actor) ds) (sym c.deref.ensures.value)
    ∙ (sym c.first_owed.ensures ∙ c.in-Some.is)) c.remove-debt.ensures.value c.from.ensures
    c.remove-debt.ensures.items in
    let p : 0 < length (owed_by (world_view i) c.args.actor) = omega (arith, ap length u.0) in
    stepped i _ _ (Unpark c.args.actor) c.self.view_is p u.3
