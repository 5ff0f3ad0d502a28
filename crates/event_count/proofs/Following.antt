-- What the history tells of pushes, of stacks that were taken, and of wakes.
use Rattle.std.proofs.Common.{◌≡◌, ℕ, ◌+◌, ◌==◌, nat_lt, if◌then◌else◌, Bool, true, false, List, []}
use Rattle.std.proofs.Common.{◌∷◌, ◌++◌, sym, ap, refl, ◌∙◌, subst, ⊎_elim, arith, ◌-◌}
use Rattle.std.proofs.Common.{get_or-set_same, length, eq-eqb, ne_eqb}
use Rattle.std.proofs.lemmas.Bool.{cases_eq, cases_lt, lt-ltb, cond-true, cond-false}
use Rattle.std.proofs.lemmas.List.Elements.{All-weaker}
use Rattle.event_word.specs.declared.event.Event.{Event}
use Rattle.event_word.specs.declared.event.Event.TheVariants.{Publish, Prewait, Pass, PassFlag}
use Rattle.event_word.specs.declared.event.Event.TheVariants.{Cancel, Commit, Notify, NotifyAll}
use Rattle.event_word.specs.declared.event.Event.TheVariants.{Unpark, Wake, Take, Stop, End}
use Rattle.event_word.specs.declared.phase.Phase.TheVariants.{Running, Stacked, Ended}
use Rattle.event_word.specs.Lists.{one_if}
use Rattle.event_word.specs.Fields.{fields_of}
use Rattle.event_word.specs.World.{World, phase_of, owed_by}
use Rattle.event_word.specs.Step.{Possible, actor_of, effect, leave, park}
use Rattle.event_word.specs.Runs.{Runs}
use Rattle.event_word.specs.Balance.{wake_of, over}
use Rattle.event_word.proofs.Keeps.{pre_known}
use Rattle.event_word.proofs.Frames.{alone_effect}
use Rattle.event_word.proofs.Balancing.{balance}
use Rattle.event_count.specs.declared.rule.RowSizes.{RowSizes}
use Rattle.event_count.specs.declared.view.Card.{Card}
use Rattle.event_count.specs.Known.{world_at_first, events_of, Agrees}
use Rattle.event_count.specs.Shown.{CountState, Shows}
use Rattle.event_count.specs.Counts.{wakes_in, CardCounts}
use Rattle.event_count.specs.Laws.{SeatsStandOnce, ExchangesFoundNoSignal, CommitsFoundNoSignal}
use Rattle.event_count.specs.Laws.{TakenStacksAreOwed, CountsFollow}
use Rattle.event_count.proofs.Closing.{is_lawful, sleeps-cases}

pub stand_once : SeatsStandOnce
stand_once k s history w r seat =
    let stands = (is_lawful k s (history, w, r)).0.standing seat in
    let few = (sleeps-cases (phase_of w seat)).0 in omega arith

-- a run that goes on beyond a World goes on from there
Runs-rest : (w : World) (before after : List Event) (u last : World) → Runs w before u
    → Runs w (before ++ after) last → Runs u after last
Runs-rest w [] after u last r whole = subst (λ x. Runs x after last) r whole
Runs-rest w (x ∷ before) after u last r whole =
    Runs-rest (effect w x) before after u last r.1 whole.1

-- in a history that is shown, what comes after a World is a run from there
rest_of : (k : RowSizes) (s : CountState) (history : List Event) (w : World) → Shows k s history w
    → (before after : List Event) (u : World) → history ≡ before ++ after
    → Runs (world_at_first k) before u → Runs u after w
rest_of k s history w r before after u is runs = Runs-rest (world_at_first k) before after u w runs
    (subst (λ h. Runs (world_at_first k) h w) is r.runs)

-- a commit that leaves its seat stacked found no signal
pushed_by_none : (u : World) (seat : ℕ) → Possible u (Commit seat)
    → phase_of (effect u (Commit seat)) seat ≡ Stacked → u.signals ≡ 0
pushed_by_none u seat may stacked = ⊎_elim
    (λ some. let known = pre_known u seat may.0 in
    let took = cond-true (nat_lt 0 u.signals) (leave u seat Running (u.signals - 1)) (park u seat)
    (lt-ltb 0 u.signals some) in
    let runs = ap (λ x. phase_of x seat) took ∙ get_or-set_same u.phases seat Running Ended known in
    absurd (let both = sym runs ∙ stacked in cc))
    (λ none. omega arith)
    (cases_lt 0 u.signals)

pub exchanges_found : ExchangesFoundNoSignal
exchanges_found c d word (offered, next, offers, hits) =
    let found = ap (λ x. x.exchange.found) hits in (found, ap (λ n. (fields_of n).signals) found ∙ offers.1.0)

pub commits_found : CommitsFoundNoSignal
commits_found k s history w r before after seat u is runs stacked = pushed_by_none u seat
    (rest_of k s history w r before (Commit seat ∷ after) u is runs).0 stacked

-- events of others leave what a seat owes
owed_kept : (n : ℕ) (w : World) (events : List Event) (u : World) → events_of n events ≡ []
    → Runs w events u → owed_by u n ≡ owed_by w n
owed_kept n w [] u none runs = ap (λ x. owed_by x n) (sym runs)
owed_kept n w (e ∷ events) u none runs = ⊎_elim
    (λ eq. let mine = cond-true (actor_of e == n) (e ∷ events_of n events) (events_of n events)
    (eq-eqb (actor_of e) n eq) in
    let some = ap length (sym mine ∙ none) in absurd (omega arith))
    (λ ne. let theirs = cond-false (actor_of e == n) (e ∷ events_of n events) (events_of n events)
    (ne_eqb (actor_of e) n ne) in
    owed_kept n (effect w e) events u (sym theirs ∙ none) runs.1
    ∙ (alone_effect n w e (λ is. ne (sym is))).owed)
    (cases_eq (actor_of e) n)

-- a notification of all leaves its actor the stack
owed_all : (u : World) (actor : ℕ) → Possible u (NotifyAll actor)
    → owed_by (effect u (NotifyAll actor)) actor ≡ u.stack
owed_all u actor may =
    get_or-set_same u.owed actor (owed_by u actor ++ u.stack) [] may.known
    ∙ ap (λ seats. seats ++ u.stack) may.owes_none

pub stacks_are_owed : TakenStacksAreOwed
stacks_are_owed k s history w r before after actor u is runs none id v at =
    let rest = rest_of k s history w r before (NotifyAll actor ∷ after) u is runs in
    let owes = owed_kept actor (effect u (NotifyAll actor)) after w none rest.1
    ∙ owed_all u actor rest.0 in
    All-weaker (Agrees k history w) (λ c. c.number ≡ actor → c.owing ≡ u.stack)
    (λ c agrees mine. agrees.owing ∙ (ap (λ n. owed_by w n) mine ∙ owes)) v.cards
    (r.known id v at)

-- the wakes of a seat are those of its own events
module _ (n : ℕ) where
  -- an event that is none counts nothing
  none_more : (b : Bool) (e : Event) (events : List Event)
      → wakes_in (e ∷ events) ≡ wakes_in events
      → wakes_in (if b then e ∷ events else events) ≡ 0 + wakes_in events
  none_more true e events none = let same = none in omega arith
  none_more false e events none = omega arith

  one_more : (b : Bool) (seat : ℕ) (events : List Event)
      → wakes_in (if b then Wake seat ∷ events else events) ≡ one_if b + wakes_in events
  one_more true seat events = omega arith
  one_more false seat events = omega arith

  wakes_in-cons : (w : World) (e : Event) (events : List Event)
      → wakes_in (if actor_of e == n then e ∷ events else events)
      ≡ wake_of n w e + wakes_in events
  wakes_in-cons w (Publish actor row) es = none_more (actor == n) (Publish actor row) es refl
  wakes_in-cons w (Prewait seat) es = none_more (seat == n) (Prewait seat) es refl
  wakes_in-cons w (Pass seat row) es = none_more (seat == n) (Pass seat row) es refl
  wakes_in-cons w (PassFlag seat) es = none_more (seat == n) (PassFlag seat) es refl
  wakes_in-cons w (Cancel seat) es = none_more (seat == n) (Cancel seat) es refl
  wakes_in-cons w (Commit seat) es = none_more (seat == n) (Commit seat) es refl
  wakes_in-cons w (Notify actor) es = none_more (actor == n) (Notify actor) es refl
  wakes_in-cons w (NotifyAll actor) es = none_more (actor == n) (NotifyAll actor) es refl
  wakes_in-cons w (Unpark actor) es = none_more (actor == n) (Unpark actor) es refl
  wakes_in-cons w (Wake seat) es = one_more (seat == n) seat es
  wakes_in-cons w (Take actor row) es = none_more (actor == n) (Take actor row) es refl
  wakes_in-cons w (Stop actor) es = none_more (actor == n) (Stop actor) es refl
  wakes_in-cons w (End seat) es = none_more (seat == n) (End seat) es refl

  wakes_in-events_of : (w : World) (history : List Event)
      → wakes_in (events_of n history) ≡ over (wake_of n) w history
  wakes_in-events_of w [] = refl
  wakes_in-events_of w (e ∷ history) =
      let here = wakes_in-cons w e (events_of n history) in
      let rest = wakes_in-events_of (effect w e) history in omega arith

card_counts : (k : RowSizes) (history : List Event) (w : World) (c : Card) → Agrees k history w c
    → CardCounts k history c
card_counts k history w c agrees = record {
  pushes = agrees.epoch;
  wakes = ap wakes_in agrees.events ∙ wakes_in-events_of c.number (world_at_first k) history;
}

pub counts_follow : CountsFollow
counts_follow k s history w r = (
  λ seat _. balance k.waiters k.notifiers k.rows history w r.runs seat,
  λ id v at. All-weaker (Agrees k history w) (CardCounts k history)
      (card_counts k history w) v.cards (r.known id v at),
)
