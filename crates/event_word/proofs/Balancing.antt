-- Each event keeps the balance of a seat's pushes, takings, unparks and wakes.
use Rattle.std.proofs.Common.{◌≡◌, ◌≢◌, ℕ, ◌+◌, ◌-◌, ◌<◌, ◌==◌, if◌then◌else◌, nat_lt, Bool, false}
use Rattle.std.proofs.Common.{true, List, [], ◌∷◌, ◌++◌, get_or, set, sym, ap, refl, ◌∙◌}
use Rattle.std.proofs.Common.{⊎_elim, arith, length}
use Rattle.std.proofs.lemmas.Bool.{cases_eq, cond_both}
use Rattle.event_word.specs.declared.phase.Phase.TheVariants.{Running}
use Rattle.event_word.specs.declared.event.Event.{Event}
use Rattle.event_word.specs.declared.event.Event.TheVariants.{Publish, Prewait, Pass, PassFlag}
use Rattle.event_word.specs.declared.event.Event.TheVariants.{Cancel, Commit, Notify}
use Rattle.event_word.specs.declared.event.Event.TheVariants.{NotifyAll, Unpark, Wake, Take, Stop}
use Rattle.event_word.specs.declared.event.Event.TheVariants.{End}
use Rattle.event_word.specs.Lists.{one_if, total, times}
use Rattle.event_word.specs.World.{World, owed_by, has_token, opening_world}
use Rattle.event_word.specs.Step.{Possible, effect, leave, park, announced, pop, signal, unpark}
use Rattle.event_word.specs.Step.{actor_of}
use Rattle.event_word.specs.Lawful.{Lawful, HasSizes}
use Rattle.event_word.specs.Runs.{Runs}
use Rattle.event_word.specs.Balance.{heads, push_of, taking_of, unpark_of, wake_of, over}
use Rattle.event_word.specs.Balance.{RunsBalance}
use Rattle.event_word.proofs.Lists.{times-append, total-set, one_if-same, one_if-other}
use Rattle.event_word.proofs.Keeps.{lawful_effect, owed_is_stacked, stacked_known, token-set}
use Rattle.event_word.proofs.Keeps.{token-set_other}
use Rattle.event_word.proofs.Sizes.{sizes_effect, sizes_opening}
use Rattle.event_word.proofs.Histories.{lawful_opening, total-replicate, get_or-replicate_either}

-- what an event takes from the stack, the debts and the tokens, it gives to the next of them
pub record Moves (w u : World) (n pushes takings unparks wakes : ℕ) : Type 0 where
  pub stack : times n u.stack + takings ≡ times n w.stack + pushes
  pub owed : total (times n) u.owed + unparks ≡ total (times n) w.owed + takings
  pub tokens : one_if (has_token u n) + wakes ≡ one_if (has_token w n) + unparks

module _ (n : ℕ) where
  still : (w u : World) → u.stack ≡ w.stack → u.owed ≡ w.owed → u.tokens ≡ w.tokens
      → Moves w u n 0 0 0 0
  still w u stack owed tokens = record {
    stack = let e = ap (times n) stack in omega arith;
    owed = let e = ap (total (times n)) owed in omega arith;
    tokens = let e = ap (λ ts. one_if (get_or ts n false)) tokens in omega arith;
  }

  moves_commit : (w : World) (seat : ℕ)
      → Moves w (effect w (Commit seat)) n (push_of n w (Commit seat)) 0 0 0
  moves_commit w seat = cases (nat_lt 0 w.signals)
    where
      cases : (b : Bool) → Moves w (if b then leave w seat Running (w.signals - 1) else park w seat)
          n (if b then 0 else one_if (seat == n)) 0 0 0
      cases true = record { stack = omega arith; owed = omega arith; tokens = omega arith }
      cases false = record { stack = omega arith; owed = omega arith; tokens = omega arith }

  moves_pop : (w : World) (actor : ℕ) (seats : List ℕ) → actor < length w.owed → w.stack ≡ seats
      → Moves w (pop (announced w actor) actor seats) n 0 (heads n seats) 0 0
  moves_pop w actor [] known e = still w (announced w actor) refl refl refl
  moves_pop w actor (top ∷ rest) known e = record {
    stack = let a = ap (times n) e in omega arith;
    owed = let c = times-append n (owed_by w actor) (top ∷ []) in
        let d = total-set (times n) w.owed actor (owed_by w actor ++ top ∷ []) [] known in
        omega arith;
    tokens = omega arith;
  }

  moves_notify : (w : World) (actor : ℕ) → actor < length w.owed
      → Moves w (effect w (Notify actor)) n 0 (taking_of n w (Notify actor)) 0 0
  moves_notify w actor known = cases (nat_lt w.signals (length w.pre))
    where
      cases : (b : Bool) → Moves w
          (if b then signal (announced w actor) else pop (announced w actor) actor w.stack)
          n 0 (if b then 0 else heads n w.stack) 0 0
      cases true = record { stack = omega arith; owed = omega arith; tokens = omega arith }
      cases false = moves_pop w actor w.stack known refl

  moves_unpark : (w : World) (actor : ℕ) → Lawful w → length w.tokens ≡ length w.phases
      → (seats : List ℕ) → owed_by w actor ≡ seats
      → Moves w (unpark w actor seats) n 0 0 (heads n seats) 0
  moves_unpark w actor law sized [] e = still w w refl refl refl
  moves_unpark w actor law sized (seat ∷ rest) e =
      let k = owed_is_stacked w law actor seat rest e in
      record {
        stack = omega arith;
        owed = let b = ap (times n) e in
            let d = total-set (times n) w.owed actor rest [] k.0 in omega arith;
        tokens = ⊎_elim
            (λ is. let t = token-set w seat true (omega arith) in
            let u = ap (λ j. one_if (get_or (set w.tokens seat true) j false)) is in
            let v = ap (λ j. one_if (has_token w j)) is in
            let one = one_if-same seat n is in let none = k.2 in omega arith)
            (λ ne. let t = token-set_other w seat n true (λ q. ne (sym q)) in
            let one = one_if-other seat n ne in omega arith)
            (cases_eq seat n);
      }

  moves_wake : (w : World) (seat : ℕ) → length w.tokens ≡ length w.phases
      → Possible w (Wake seat) → Moves w (effect w (Wake seat)) n 0 0 0 (one_if (seat == n))
  moves_wake w seat sized p = let known = stacked_known w seat p.0 in record {
    stack = omega arith;
    owed = omega arith;
    tokens = ⊎_elim
        (λ is. let t = token-set w seat false (omega arith) in let had = ap one_if p.1 in
        let u = ap (λ j. one_if (get_or (set w.tokens seat false) j false)) is in
        let v = ap (λ j. one_if (has_token w j)) is in
        let one = one_if-same seat n is in omega arith)
        (λ ne. let t = token-set_other w seat n false (λ q. ne (sym q)) in
        let one = one_if-other seat n ne in omega arith)
        (cases_eq seat n);
  }

  pub moves : (w : World) (e : Event) → length w.tokens ≡ length w.phases → Lawful w
      → Possible w e
      → Moves w (effect w e) n (push_of n w e) (taking_of n w e) (unpark_of n w e) (wake_of n w e)
  moves w (Publish actor row) sized law p = still w (effect w (Publish actor row)) refl refl refl
  moves w (Prewait seat) sized law p = still w (effect w (Prewait seat)) refl refl refl
  moves w (Pass seat row) sized law p = still w (effect w (Pass seat row)) refl refl refl
  moves w (PassFlag seat) sized law p = still w (effect w (PassFlag seat)) refl refl refl
  moves w (Cancel seat) sized law p = still w (effect w (Cancel seat)) refl refl refl
  moves w (Commit seat) sized law p = moves_commit w seat
  moves w (Notify actor) sized law p = moves_notify w actor p.known
  moves w (NotifyAll actor) sized law p = record {
    stack = omega arith;
    owed = let c = times-append n (owed_by w actor) w.stack in
        let d = total-set (times n) w.owed actor (owed_by w actor ++ w.stack) [] p.known in
        omega arith;
    tokens = omega arith;
  }
  moves w (Unpark actor) sized law p = moves_unpark w actor law sized (owed_by w actor) refl
  moves w (Wake seat) sized law p = moves_wake w seat sized p
  moves w (Take actor row) sized law p = still w (effect w (Take actor row)) refl refl refl
  moves w (Stop actor) sized law p = still w (effect w (Stop actor)) refl refl refl
  moves w (End seat) sized law p = still w (effect w (End seat)) refl refl refl

  -- and so does a run
  pub moves_run : (workers actors rows : ℕ) (w : World) (es : List Event) (u : World)
      → Runs w es u → Lawful w → HasSizes workers actors rows w
      → Moves w u n (over (push_of n) w es) (over (taking_of n) w es) (over (unpark_of n) w es)
      (over (wake_of n) w es)
  moves_run workers actors rows w [] u r law sizes =
      still w u (ap (λ x. x.stack) (sym r)) (ap (λ x. x.owed) (sym r)) (ap (λ x. x.tokens) (sym r))
  moves_run workers actors rows w (e ∷ es) u r law sizes =
      let sized = sizes.tokens ∙ sym sizes.phases in
      let here = moves w e sized law r.0 in
      let rest = moves_run workers actors rows (effect w e) es u r.1
      (lawful_effect w e sized law r.0) (sizes_effect workers actors rows w e sizes) in
      let a = here.stack in let b = here.owed in let c = here.tokens in
      let d = rest.stack in let f = rest.owed in let g = rest.tokens in record {
        stack = omega arith;
        owed = omega arith;
        tokens = omega arith;
      }

pub balance : RunsBalance
balance workers notifiers rows history w r seat =
    let first = opening_world workers notifiers rows in
    let m = moves_run seat workers (workers + notifiers) rows first history w r
    (lawful_opening workers notifiers rows) (sizes_opening workers notifiers rows) in
    let owes = total-replicate (times seat) [] (workers + notifiers) refl in
    let has = get_or-replicate_either (λ t. one_if t ≡ 0) false false workers seat refl refl in
    let a = m.stack in let b = m.owed in let c = m.tokens in record {
      pushes = omega arith;
      takings = omega arith;
      unparks = omega arith;
    }

-- events of a list and of one after it
pub over-append : (f : World → Event → ℕ) (w : World) (es : List Event) (u : World)
    (more : List Event) → Runs w es u → over f w (es ++ more) ≡ over f w es + over f u more
over-append f w [] u more r = let same = ap (λ x. over f x more) r in omega arith
over-append f w (e ∷ es) u more r = let rest = over-append f (effect w e) es u more r.1 in
    omega arith

-- nobody pushes another
pub no_push : (n : ℕ) (w : World) (e : Event) → n ≢ actor_of e → push_of n w e ≡ 0
no_push n w (Publish actor row) ne = refl
no_push n w (Prewait seat) ne = refl
no_push n w (Pass seat row) ne = refl
no_push n w (PassFlag seat) ne = refl
no_push n w (Cancel seat) ne = refl
no_push n w (Commit seat) ne = cond_both (nat_lt 0 w.signals) 0 (one_if (seat == n)) (λ m. m ≡ 0)
    (λ _. refl) (λ _. one_if-other seat n (λ e. ne (sym e)))
no_push n w (Notify actor) ne = refl
no_push n w (NotifyAll actor) ne = refl
no_push n w (Unpark actor) ne = refl
no_push n w (Wake seat) ne = refl
no_push n w (Take actor row) ne = refl
no_push n w (Stop actor) ne = refl
no_push n w (End seat) ne = refl
