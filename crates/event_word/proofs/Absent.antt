-- An absent actor stays idle, and so is no support for any row.
use Rattle.std.proofs.Common.{◌≡◌, ◌≢◌, ℕ, suc, ◌+◌, ◌<◌, Bool, true, false, List, [], ◌∷◌, length}
use Rattle.std.proofs.Common.{sym, ap, refl, ◌∙◌, subst, arith}
use Rattle.std.specs.List.{AllPass}
use Rattle.std.proofs.lemmas.Bool.{true≢false}
use Rattle.std.proofs.lemmas.List.{length-replicate, get_or-replicate}
use Rattle.event_word.specs.declared.phase.Phase.TheVariants.{Running, Ended}
use Rattle.event_word.specs.declared.event.Event.{Event}
use Rattle.event_word.specs.Lists.{one_if}
use Rattle.event_word.specs.World.{World, phase_of, owed_by, is_announcing, opening_world}
use Rattle.event_word.specs.Step.{effect, actor_of}
use Rattle.event_word.specs.Lawful.{sleeps, Lawful, HasSizes}
use Rattle.event_word.specs.Runs.{Runs}
use Rattle.event_word.specs.Waking.{Support, by_announcement, by_runner, by_looker, by_signal}
use Rattle.event_word.specs.Waking.{by_debt, by_token}
use Rattle.event_word.specs.Present.{IsByPresent}
use Rattle.event_word.proofs.Lists.{get_or-replicate_same}
use Rattle.event_word.proofs.Keeps.{pre_known, seat_known}
use Rattle.event_word.proofs.Sizes.{sizes_effect, sizes_opening}
use Rattle.event_word.proofs.Frames.{events_leave_alone}
use Rattle.event_word.proofs.Waking.{RunsPresent}

-- the number runs, if it is a worker's, is not to notify, and owes nobody
pub record IsIdle (w : World) (n : ℕ) : Type 0 where
  pub runs : n < length w.phases → phase_of w n ≡ Running
  pub silent : is_announcing w n ≡ false
  pub free : owed_by w n ≡ []

-- an absent actor is idle
abbrev pub AbsentIdle : (ℕ → Bool) → World → Type 0
AbsentIdle is_present w = (n : ℕ) → is_present n ≡ false → IsIdle w n

idle_effect : (workers actors rows : ℕ) (w : World) (e : Event) (n : ℕ)
    → HasSizes workers actors rows w → n ≢ actor_of e → IsIdle w n → IsIdle (effect w e) n
idle_effect workers actors rows w e n s other i =
    let a = (events_leave_alone.frames w e).alone n other in
    let t = sizes_effect workers actors rows w e s in record {
      runs = λ h. a.phase ∙ i.runs (omega (arith, s.phases, t.phases));
      silent = a.announcing ∙ i.silent;
      free = a.owed ∙ i.free;
    }

idle_run : (is_present : ℕ → Bool) (workers actors rows : ℕ) (first : World)
    (history : List Event) (last : World) → Runs first history last
    → AllPass (λ e. is_present (actor_of e)) history → HasSizes workers actors rows first
    → AbsentIdle is_present first → AbsentIdle is_present last
idle_run is_present workers actors rows first [] last q here s i =
    subst (AbsentIdle is_present) q i
idle_run is_present workers actors rows first (e ∷ es) last q here s i =
    idle_run is_present workers actors rows (effect first e) es last q.1
    (λ k d lt. here (suc k) d (omega arith)) (sizes_effect workers actors rows first e s)
    (λ n away. idle_effect workers actors rows first e n s
    (λ is. true≢false (sym (here 0 e (omega arith)) ∙ (ap is_present (sym is) ∙ away)))
    (i n away))

idle_opening : (workers notifiers rows n : ℕ) → IsIdle (opening_world workers notifiers rows) n
idle_opening workers notifiers rows n = record {
  runs = λ h. let l = length-replicate workers Running in
      get_or-replicate workers n Running Ended (omega arith);
  silent = get_or-replicate_same (workers + notifiers) false n;
  free = get_or-replicate_same (workers + notifiers) [] n;
}

pub absent_idle : (is_present : ℕ → Bool) (workers notifiers rows : ℕ) (history : List Event)
    (w : World) → Runs (opening_world workers notifiers rows) history w
    → AllPass (λ e. is_present (actor_of e)) history → AbsentIdle is_present w
absent_idle is_present workers notifiers rows history w q here =
    idle_run is_present workers (workers + notifiers) rows (opening_world workers notifiers rows)
    history w q here (sizes_opening workers notifiers rows)
    (λ n _. idle_opening workers notifiers rows n)

module _ (is_present : ℕ → Bool) (w : World) (r : Lawful w) (i : AbsentIdle is_present w) where
  -- an actor that is not idle is present
  pub present : (n : ℕ) → (IsIdle w n → ⊥) → is_present n ≡ true
  present n busy = by_flag (is_present n) refl
    where
      by_flag : (here : Bool) → is_present n ≡ here → is_present n ≡ true
      by_flag true e = e
      by_flag false e = absurd (busy (i n e))

  pub by_present : (row : ℕ) (support : Support w row) → RunsPresent is_present support
      → IsByPresent is_present support
  by_present row (by_announcement actor e) here =
      present actor (λ idle. true≢false (sym e ∙ idle.silent))
  by_present row (by_runner seat e) here = here
  by_present row (by_looker seat e past) here =
      present seat (λ idle. let runs = sym e ∙ idle.runs (pre_known w seat e) in absurd (cc))
  by_present row (by_signal some) here = tt
  by_present row (by_debt actor some) here =
      present actor (λ idle. let none = ap length idle.free in omega arith)
  by_present row (by_token seat e) here = let a = r.standing seat in let one = ap one_if e in
      let known = seat_known w seat (λ d. let z = ap sleeps d in omega arith) in
      present seat (λ idle. let runs = ap sleeps (idle.runs known) in omega arith)
