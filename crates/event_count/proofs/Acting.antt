-- Events of one actor.
use Rattle.std.proofs.Common.{◌≡◌, ◌≢◌, ℕ, ◌==◌, List, [], ◌∷◌, ◌++◌, sym, ap, refl, ◌∙◌, eq-eqb}
use Rattle.std.proofs.Common.{ne_eqb, append-nil}
use Rattle.std.proofs.lemmas.Bool.{cond-true, cond-false}
use Rattle.std.proofs.lemmas.List.Elements.{filter-append}
use Rattle.event_word.specs.declared.event.Event.{Event}
use Rattle.event_word.specs.World.{World, phase_of, owed_by, has_passed_flag, rows_passed_by}
use Rattle.event_word.specs.World.{is_announcing}
use Rattle.event_word.specs.Step.{actor_of, effect}
use Rattle.event_word.specs.Runs.{Runs}
use Rattle.event_word.proofs.Frames.{alone_effect}
use Rattle.event_count.specs.Known.{events_of}

-- each event is the actor's
abbrev pub AreBy : ℕ → List Event → Type 0
AreBy actor [] = Unit {0}
AreBy actor (e ∷ events) = (actor_of e ≡ actor) × AreBy actor events

-- what is another number's own
pub record AreAlone (w u : World) (n : ℕ) : Type 0 where
  pub phase : phase_of u n ≡ phase_of w n
  pub owed : owed_by u n ≡ owed_by w n
  pub flag : has_passed_flag u n ≡ has_passed_flag w n
  pub rows : rows_passed_by u n ≡ rows_passed_by w n
  pub announcing : is_announcing u n ≡ is_announcing w n

-- they leave it alone
pub left_alone : (actor n : ℕ) → n ≢ actor → (w : World) (events : List Event) (u : World)
    → AreBy actor events → Runs w events u → AreAlone w u n
left_alone actor n ne w [] u by runs = record {
  phase = ap (λ x. phase_of x n) (sym runs);
  owed = ap (λ x. owed_by x n) (sym runs);
  flag = ap (λ x. has_passed_flag x n) (sym runs);
  rows = ap (λ x. rows_passed_by x n) (sym runs);
  announcing = ap (λ x. is_announcing x n) (sym runs);
}
left_alone actor n ne w (e ∷ events) u by runs =
    let alone = alone_effect n w e (λ is. ne (is ∙ by.0)) in
    let rest = left_alone actor n ne (effect w e) events u by.1 runs.1 in
    record {
      phase = rest.phase ∙ alone.phase;
      owed = rest.owed ∙ alone.owed;
      flag = rest.flag ∙ alone.flag;
      rows = rest.rows ∙ alone.rows;
      announcing = rest.announcing ∙ alone.announcing;
    }

all_mine : (actor : ℕ) (events : List Event) → AreBy actor events
    → events_of actor events ≡ events
all_mine actor [] by = refl
all_mine actor (e ∷ events) by =
    cond-true (actor_of e == actor) (e ∷ events_of actor events) (events_of actor events)
    (eq-eqb (actor_of e) actor by.0)
    ∙ ap (λ es. e ∷ es) (all_mine actor events by.1)

none_theirs : (actor n : ℕ) (events : List Event) → n ≢ actor → AreBy actor events
    → events_of n events ≡ []
none_theirs actor n [] ne by = refl
none_theirs actor n (e ∷ events) ne by =
    cond-false (actor_of e == n) (e ∷ events_of n events) (events_of n events)
    (ne_eqb (actor_of e) n (λ is. ne (sym is ∙ by.0)))
    ∙ none_theirs actor n events ne by.1

pub events_of-mine : (actor : ℕ) (history events : List Event) → AreBy actor events
    → events_of actor (history ++ events) ≡ events_of actor history ++ events
events_of-mine actor history events by =
    filter-append (λ e. actor_of e == actor) history events
    ∙ ap (λ es. events_of actor history ++ es) (all_mine actor events by)

pub events_of-theirs : (actor n : ℕ) (history events : List Event) → n ≢ actor
    → AreBy actor events → events_of n (history ++ events) ≡ events_of n history
events_of-theirs actor n history events ne by =
    filter-append (λ e. actor_of e == n) history events
    ∙ (ap (λ es. events_of n history ++ es) (none_theirs actor n events ne by)
    ∙ append-nil (events_of n history))
