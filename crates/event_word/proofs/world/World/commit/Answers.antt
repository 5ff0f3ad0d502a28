use Rattle.std.proofs.Common.{◌∷◌, Bool, refl, sym, ap, ◌∙◌, subst, arith, length-set}
use Rattle.std.proofs.lemmas.Bool.{cond-true, true≢false}
use Rattle.std.specs.List.{AllPass}
use Rattle.std.specs.Result.{is_ok}
use Rattle.event_word.specs.declared.phase.Phase.TheVariants.{Pre}
use Rattle.event_word.proofs.Stored.{stored_step, room_to_push}
use Rattle.event_word.proofs.Passing.{may_commit}
use Rattle.event_word.proofs.Taken.{phase_found}
use Rattle.event_word.specs.Stored.{world_view}
use Rattle.event_word.proofs.Keeps.{pre_known}
use Rattle.event_word.proofs.Stored.{consume_view, push_view}
use Rattle.event_word.proofs.Passing.{all_passed}
use Rattle.event_word.proofs.Taken.{refused}
use Rattle.event_word.specs.declared.event.Event.TheVariants.{Commit}
use Rattle.event_word.proofs.world.World.commit.Goals as goal

pub returns-then-not-are_all_true : goal.returns-then-not-are_all_true
returns-then-not-are_all_true g c =
    let i = c.self.inside in let s = c.self.invariant in
    refused i _ (Commit c.args.seat) c.self.view_is
    (λ p. let known = pre_known (world_view i) c.args.seat p.0 in
    true≢false (sym (c.are_all_true.ensures.1 (subst (AllPass (λ (b : Bool). b))
    (sym c.deref-2.ensures.value)
    (all_passed i s c.args.seat _ c.index-2.result.now known c.from-place.ensures c.index-2.ensures
    p.1))) ∙ c.if-not-are_all_true.true))

pub invariant_of-self : goal.invariant_of-self
invariant_of-self g c =
    let i = c.self.inside in let s = c.self.invariant in
    let at = phase_found i.phases.items _ c.args.seat _ Pre c.deref.ensures.value
    c.from-place.ensures (c.is_in.ensures.0 c.if-not-is_in.false) in
    let p = may_commit i s c.args.seat _ _ c.index-2.result.now at c.from-place.ensures
    c.index.ensures c.if-not-index.false c.index-2.ensures
    (subst (AllPass (λ (b : Bool). b)) c.deref-2.ensures.value
    (c.are_all_true.ensures.0 c.if-not-are_all_true.false)) in
    stored_step i s _ (Commit c.args.seat) p
    (consume_view i s c.args.seat _ _ _ c.if-self-gt0.true c.from-place.ensures refl
    c.take_out.ensures.items)
    (record {
      workers = length-set i.phases.items _ _;
      notifiers = refl;
      pre = omega (arith, c.take_out.ensures.capacity);
      stack = omega arith;
      owed = omega arith;
      known = s.known;
    })

pub unwrap-requires : goal.unwrap-requires
unwrap-requires g c =
    let i = c.self.inside in let s = c.self.invariant in
    let at = phase_found i.phases.items _ c.args.seat _ Pre c.deref.ensures.value
    c.from-place.ensures (c.is_in.ensures.0 c.if-not-is_in.false) in
    let p = may_commit i s c.args.seat _ _ c.index-2.result.now at c.from-place.ensures
    c.index.ensures c.if-not-index.false c.index-2.ensures
    (subst (AllPass (λ (b : Bool). b)) c.deref-2.ensures.value
    (c.are_all_true.ensures.0 c.if-not-are_all_true.false)) in
    c.insert.ensures.succeeds (room_to_push i s c.args.seat p (omega (arith, c.if-self-gt0.false)))

pub invariant_of-self-else-self-gt0 : goal.invariant_of-self-else-self-gt0
invariant_of-self-else-self-gt0 g c =
    let i = c.self.inside in let s = c.self.invariant in
    let at = phase_found i.phases.items _ c.args.seat _ Pre c.deref.ensures.value
    c.from-place.ensures (c.is_in.ensures.0 c.if-not-is_in.false) in
    let p = may_commit i s c.args.seat _ _ c.index-2.result.now at c.from-place.ensures
    c.index.ensures c.if-not-index.false c.index-2.ensures
    (subst (AllPass (λ (b : Bool). b)) c.deref-2.ensures.value
    (c.are_all_true.ensures.0 c.if-not-are_all_true.false)) in
    stored_step i s _ (Commit c.args.seat) p
    (push_view i s c.args.seat _ _ _ (omega (arith, c.if-self-gt0.false)) c.from-place.ensures
    c.take_out.ensures.items (c.insert.ensures.items
    ∙ cond-true (is_ok c.insert.result) (c.args.seat ∷ i.stack.items) i.stack.items
    (ap is_ok c.unwrap.ensures)))
    (record {
      workers = length-set i.phases.items _ _;
      notifiers = refl;
      pre = omega (arith, c.take_out.ensures.capacity);
      stack = c.insert.ensures.capacity;
      owed = omega arith;
      known = s.known;
    })
