-- The Worlds of a count behind a lock.
use Rattle.std.proofs.Common.{◌≡◌, ℕ, ◌+◌, ◌<◌, ◌≤◌, ◌^◌, Bool, true, false, List, [], ◌∷◌, length}
use Rattle.std.proofs.Common.{sym, ap, refl, ◌∙◌, subst, ⊎_elim, arith, get_or-set_same}
use Rattle.std.proofs.lemmas.Bool.{cases_lt}
use Rattle.std.proofs.lemmas.List.{get_or_past}
use Rattle.event_word.specs.declared.phase.Phase.TheVariants.{Ended}
use Rattle.event_word.specs.declared.event.Event.{Event}
use Rattle.event_word.specs.declared.event.Event.TheVariants.{Unpark}
use Rattle.event_word.specs.Lists.{times}
use Rattle.event_word.specs.World.{World, owed_by}
use Rattle.event_word.specs.Step.{Possible, effect, unpark}
use Rattle.event_word.specs.Play.{IsStep}
use Rattle.event_word.specs.Lawful.{sleeps}
use Rattle.event_word.specs.Shown.{top_of}
use Rattle.event_word.proofs.Lists.{one_if-same}
use Rattle.event_word.proofs.Histories.{lawful_history}
use Rattle.event_word.proofs.Keeps.{lawful_effect}
use Rattle.event_word.proofs.Frames.{frames_effect}
use Rattle.event_count.specs.Limits.{most_waiters}
use Rattle.event_count.specs.declared.rule.Sizes.{Sizes}
use Rattle.event_count.specs.Known.{first_world}
use Rattle.event_count.specs.LockedCount.{IsCountWorld, unparked, settled}

-- the first World is one
pub IsCountWorld-first : (k : Sizes) → k.waiters ≤ most_waiters → IsCountWorld k (first_world k)
IsCountWorld-first k few =
    let first = lawful_history k.waiters k.notifiers 0 [] (first_world k) refl in
    record { lawful = first.0; sizes = first.1; few = few }

-- a step leads from such a World to one
pub IsCountWorld-step : (k : Sizes) (w : World) (e : Event) (b : Bool) (u : World)
    → IsCountWorld k w → IsStep w e b u → IsCountWorld k u
IsCountWorld-step k w e true u c p = subst (IsCountWorld k) (sym p.1) record {
  lawful = lawful_effect w e (c.sizes.tokens ∙ sym c.sizes.phases) c.lawful p.0;
  sizes = (frames_effect w e).sizes k.waiters (k.waiters + k.notifiers) 0 c.sizes;
  few = c.few;
}
IsCountWorld-step k w e false u c p = subst (IsCountWorld k) (sym p.1) c

module _ (w : World) (actor : ℕ) where
  module _ (seat : ℕ) (rest : List ℕ) (is : owed_by w actor ≡ seat ∷ rest) where
    -- an actor that owes a seat is one of the actors
    owes : actor < length w.owed
    owes = ⊎_elim (λ less. less)
        (λ le. let none = ap length (sym is ∙ get_or_past w.owed actor [] le) in
        absurd (omega arith))
        (cases_lt actor (length w.owed))

    -- the seats behind the first are owed then
    owed-unpark : owed_by (effect w (Unpark actor)) actor ≡ rest
    owed-unpark = ap (λ owed. owed_by (unpark w actor owed) actor) is
        ∙ get_or-set_same w.owed actor rest [] owes

    settled-unpark : settled (effect w (Unpark actor)) actor ≡ settled w actor
    settled-unpark = ap (unparked (effect w (Unpark actor)) actor) owed-unpark
        ∙ sym (ap (unparked w actor) is)

  module _ (u : World) where
    settled-by : (owed : List ℕ) → owed_by w actor ≡ owed → IsStep w (Unpark actor) true u
        → settled u actor ≡ settled w actor
    settled-by [] is p = let none = ap length is in let some = p.0 in absurd (omega arith)
    settled-by (seat ∷ rest) is p =
        ap (λ x. settled x actor) p.1 ∙ settled-unpark seat rest is

    -- an unpark leaves to be done what it did not do
    pub settled-step : IsStep w (Unpark actor) true u → settled u actor ≡ settled w actor
    settled-step = settled-by (owed_by w actor) refl

    fewer-by : (owed : List ℕ) → owed_by w actor ≡ owed → IsStep w (Unpark actor) true u
        → length (owed_by u actor) < length (owed_by w actor)
    fewer-by [] is p = let none = ap length is in let some = p.0 in absurd (omega arith)
    fewer-by (seat ∷ rest) is p =
        let before = ap length is in
        let after = ap (λ x. length (owed_by x actor)) p.1 ∙ ap length (owed-unpark seat rest is) in
        omega arith

    -- and fewer are owed
    pub length-owed-step : IsStep w (Unpark actor) true u
        → length (owed_by u actor) < length (owed_by w actor)
    length-owed-step = fewer-by (owed_by w actor) refl

  none-by : (owed : List ℕ) → owed_by w actor ≡ owed → (Possible w (Unpark actor) → ⊥)
      → unparked w actor owed ≡ w
  none-by [] is none = refl
  none-by (seat ∷ rest) is none = let some = ap length is in absurd (none (omega arith))

  -- where no unpark is possible, all is done
  pub settled-none : (Possible w (Unpark actor) → ⊥) → settled w actor ≡ w
  settled-none = none-by (owed_by w actor) refl

module _ (k : Sizes) (w : World) (c : IsCountWorld k w) where
  -- a seat on the stack is a waiter
  on_stack : (seat : ℕ) → 0 < times seat w.stack → seat < length w.phases
  on_stack seat some = ⊎_elim (λ less. less)
      (λ le. let stands = c.lawful.standing seat in
      let past = ap sleeps (get_or_past w.phases seat Ended le) in absurd (omega arith))
      (cases_lt seat (length w.phases))

  top-by : (stack : List ℕ) → w.stack ≡ stack → top_of stack < 2 ^ 14
  top-by [] is = omega arith
  top-by (seat ∷ rest) is =
      let there = ap (times seat) is in let once = one_if-same seat seat refl in
      let waiter = on_stack seat (omega arith) in let few = c.few in
      let phases = c.sizes.phases in omega arith

  -- the top fits its bits
  pub top_of-fits : top_of w.stack < 2 ^ 14
  top_of-fits = top-by w.stack refl
