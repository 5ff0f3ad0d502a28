-- Where all present actors are parked and nobody is to notify, no row has support; and the wake
-- laws that follow.
use Rattle.std.proofs.Common.{◌≡◌, ◌≢◌, ℕ, ◌+◌, ◌≤◌, ◌<◌, Bool, true, List, [], ◌∷◌, length, get_or}
use Rattle.std.proofs.Common.{inl, inr, sym, ap, refl, ◌∙◌, ⊎_elim, arith}
use Rattle.std.proofs.lemmas.Bool.{cases_lt, true≢false}
use Rattle.event_word.specs.declared.phase.Phase.TheVariants.{Running, Pre, Ended}
use Rattle.event_word.specs.Lists.{one_if, times}
use Rattle.event_word.specs.World.{World, phase_of, owed_by, length_of, opening_world}
use Rattle.event_word.specs.Lawful.{sleeps, Lawful}
use Rattle.event_word.specs.Waking.{Support, by_announcement, by_runner, by_looker, by_signal}
use Rattle.event_word.specs.Waking.{by_debt, by_token, AllSilent, RunsStayAwake}
use Rattle.event_word.specs.Present.{IsByPresent, PresentParked, RunsStayAwakeByPresent}
use Rattle.event_word.proofs.Lists.{one_if-same, times-at, times-Contains, at-le-total}
use Rattle.event_word.proofs.Keeps.{pre_known, seat_known, owed_is_stacked, sleeps-le-one}
use Rattle.event_word.proofs.Keeps.{waits-is_pre}
use Rattle.event_word.proofs.Sizes.{sizes_opening}
use Rattle.event_word.proofs.Histories.{lawful_opening, lawful_history}
use Rattle.event_word.proofs.Waking.{HasEnded, RunsPresent, Reason, wakes_run, wakes_opening}
use Rattle.event_word.proofs.Absent.{AbsentIdle, absent_idle, present, by_present}

module _ (is_present : ℕ → Bool) (w : World) (r : Lawful w) (i : AbsentIdle is_present w)
    (parked : PresentParked is_present w) (silent : AllSilent w) where
  -- a present worker sleeps, on the stack and nowhere else
  sleeps_there : (n : ℕ) → n < length w.phases → is_present n ≡ true
      → (0 < times n w.stack) × (sleeps (phase_of w n) ≤ 1)
  sleeps_there n h here =
      (times-Contains n w.stack (parked n h here), sleeps-le-one (phase_of w n))

  -- and so does every worker that doesn't run
  rests_there : (n : ℕ) → n < length w.phases → (phase_of w n ≡ Running → ⊥)
      → (0 < times n w.stack) × (sleeps (phase_of w n) ≤ 1)
  rests_there n h rests =
      sleeps_there n h (present is_present w r i n (λ idle. rests (idle.runs h)))

  no_debt : (actor : ℕ) (seats : List ℕ) → owed_by w actor ≡ seats → 0 < length seats → ⊥
  no_debt actor [] e some = omega arith
  no_debt actor (n ∷ rest) e some = let t = owed_is_stacked w r actor n rest e in
      let a = r.standing n in
      let b = at-le-total (times n) w.owed actor [] t.0 in let c = ap (times n) e in
      let d = one_if-same n n refl in
      let s = rests_there n t.1 (λ runs. let z = ap sleeps runs in omega arith) in
      omega (arith, s.0, s.1)

  no_pre : (n : ℕ) → phase_of w n ≡ Pre → ⊥
  no_pre n e =
      let s = rests_there n (pre_known w n e) (λ runs. let z = sym e ∙ runs in absurd (cc)) in
      let a = r.standing n ∙ ap sleeps e in omega (arith, s.0)

  unsupported : (row : ℕ) (support : Support w row) → RunsPresent is_present support → ⊥
  unsupported row (by_announcement actor e) here = true≢false (sym e ∙ silent actor)
  unsupported row (by_runner n e) here = let s = sleeps_there n (seat_known w n (λ d. cc)) here in
      let a = r.standing n ∙ ap sleeps e in omega (arith, s.0)
  unsupported row (by_looker n e past) here = no_pre n e
  unsupported row (by_signal some) here = let n = get_or w.pre 0 0 in let few = r.answered in
      let there = times-at n w.pre 0 0 (omega arith) refl in
      no_pre n (waits-is_pre (phase_of w n) (let a = r.waiting n in omega arith))
  unsupported row (by_debt actor some) here = no_debt actor (owed_by w actor) refl some
  unsupported row (by_token n e) here = let a = r.standing n in let one = ap one_if e in
      let known = seat_known w n (λ d. let z = ap sleeps d in omega arith) in
      let s = rests_there n known (λ runs. let z = ap sleeps runs in omega arith) in
      omega (arith, s.0, s.1)

  -- nor has anybody ended
  none_ended : HasEnded w → ⊥
  none_ended h =
      let s = rests_there h.0 h.1 (λ runs. let z = sym h.2 ∙ runs in absurd (cc)) in
      let a = r.standing h.0 ∙ ap sleeps h.2 in omega (arith, s.0)

  no_reason : (row : ℕ) → Reason is_present w row → ⊥
  no_reason row (inl s) = unsupported row s.0 s.1
  no_reason row (inr h) = none_ended h

-- where nobody has ended a reason is a support by one that is present
supported : (is_present : ℕ → Bool) (w : World) (row : ℕ) → Lawful w → AbsentIdle is_present w
    → ((seat : ℕ) → seat < length w.phases → phase_of w seat ≢ Ended) → Reason is_present w row
    → (support : Support w row) × IsByPresent is_present support
supported is_present w row r i going (inl s) = (s.0, by_present is_present w r i row s.0 s.1)
supported is_present w row r i going (inr h) = absurd (going h.0 h.1 h.2)

pub stay_awake_by_present : RunsStayAwakeByPresent
stay_awake_by_present workers notifiers rows is_present worker history w some here all q =
    let l = lawful_history workers notifiers rows history w q in
    let i = absent_idle is_present workers notifiers rows history w q all in
    let k = wakes_run is_present workers (workers + notifiers) rows
    (opening_world workers notifiers rows) history w q all
    (sizes_opening workers notifiers rows) (lawful_opening workers notifiers rows)
    (wakes_opening is_present workers notifiers rows worker some here) in record {
      awake = λ at. record {
        going = k.going at;
        support = λ row jobs. supported is_present w row l.0 i (k.going at) (k.reason row jobs);
      };
      parked = λ parked silent row. ⊎_elim
          (λ jobs. absurd (no_reason is_present w l.0 i parked silent row (k.reason row jobs)))
          (λ none. omega arith)
          (cases_lt 0 (length_of w row));
    }

-- the law where everybody is present
pub stay_awake : RunsStayAwake
stay_awake workers notifiers rows history w some q =
    let k = stay_awake_by_present workers notifiers rows (λ _. true) 0 history w some refl
    (λ _ _ _. refl) q in record {
      awake = λ at. let a = k.awake at in
          record { going = a.going; support = λ row jobs. (a.support row jobs).0 };
      parked = λ parked. k.parked (λ seat lt _. parked seat lt);
    }
