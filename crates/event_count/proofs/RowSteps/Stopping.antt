-- A stop stays, and once all were notified of it that stays too.
use Rattle.std.proofs.Common.{◌≡◌, ℕ, ◌-◌, ◌≤◌, ◌==◌, nat_lt, if◌then◌else◌, Bool, true, false, List, []}
use Rattle.std.proofs.Common.{◌∷◌, ◌++◌, length, ap, refl, ◌∙◌, subst, ⊎_elim, arith, eq-eqb, ne_eqb}
use Rattle.std.proofs.lemmas.Bool.{cases_eq, cond-true, cond-false}
use Rattle.event_word.specs.declared.event.Event.{Event}
use Rattle.event_word.specs.declared.event.Event.TheVariants.{Publish, Prewait, Pass, PassFlag}
use Rattle.event_word.specs.declared.event.Event.TheVariants.{Cancel, Commit, Notify, NotifyAll}
use Rattle.event_word.specs.declared.event.Event.TheVariants.{Unpark, Wake, Take, Stop, End}
use Rattle.event_word.specs.declared.phase.Phase.TheVariants.{Running}
use Rattle.event_word.specs.World.{World, owed_by}
use Rattle.event_word.specs.Step.{Possible, effect, leave, park, announced, signal, pop, unpark}
use Rattle.event_word.specs.Runs.{Runs}
use Rattle.event_count.specs.Known.{world_at_first}
use Rattle.event_count.specs.Rows.Laws.{NotifiedStopsShow}

-- a number goes up, and to 2 at most
abbrev Rises : ℕ → ℕ → Type 0
Rises m n = (m ≤ n) × (n ≤ 2)

stays : (m n : ℕ) → m ≤ 2 → n ≡ m → Rises m n
stays m n few is = (omega arith, omega arith)

-- of either of two Worlds
either_stop : (b : Bool) (x y : World) (m : ℕ) → x.stop ≡ m → y.stop ≡ m
    → (if b then x else y).stop ≡ m
either_stop true x y m here there = here
either_stop false x y m here there = there

pop_stop : (w : World) (actor : ℕ) (stack : List ℕ) → (pop w actor stack).stop ≡ w.stop
pop_stop w actor [] = refl
pop_stop w actor (top ∷ rest) = refl

unpark_stop : (w : World) (actor : ℕ) (owed : List ℕ) → (unpark w actor owed).stop ≡ w.stop
unpark_stop w actor [] = refl
unpark_stop w actor (seat ∷ rest) = refl

-- a notification of all makes 1 a 2
all_rises : (m : ℕ) → m ≤ 2 → Rises m (if m == 1 then 2 else m)
all_rises m few = ⊎_elim
    (λ is. let e = cond-true (m == 1) 2 m (eq-eqb m 1 is) in (omega arith, omega arith))
    (λ ne. let e = cond-false (m == 1) 2 m (ne_eqb m 1 ne) in (omega arith, omega arith))
    (cases_eq m 1)

step_rises : (w : World) (e : Event) → w.stop ≤ 2 → Possible w e → Rises w.stop (effect w e).stop
step_rises w (Publish actor row) few may = stays w.stop w.stop few refl
step_rises w (Prewait seat) few may = stays w.stop w.stop few refl
step_rises w (Pass seat row) few may = stays w.stop w.stop few refl
step_rises w (PassFlag seat) few may = stays w.stop w.stop few refl
step_rises w (Cancel seat) few may = stays w.stop w.stop few refl
step_rises w (Commit seat) few may = stays w.stop (effect w (Commit seat)).stop few
    (either_stop (nat_lt 0 w.signals) (leave w seat Running (w.signals - 1)) (park w seat) w.stop refl
    refl)
step_rises w (Notify actor) few may = let h = announced w actor in
    stays w.stop (effect w (Notify actor)).stop few
    (either_stop (nat_lt w.signals (length w.pre)) (signal h) (pop h actor h.stack) w.stop refl
    (pop_stop h actor h.stack))
step_rises w (NotifyAll actor) few may = all_rises w.stop few
step_rises w (Unpark actor) few may = stays w.stop (effect w (Unpark actor)).stop few
    (unpark_stop w actor (owed_by w actor))
step_rises w (Wake seat) few may = stays w.stop w.stop few refl
step_rises w (Take actor row) few may = stays w.stop w.stop few refl
step_rises w (Stop actor) few may = let going = may.1 in (omega arith, omega arith)
step_rises w (End seat) few may = stays w.stop w.stop few refl

run_rises : (w : World) (events : List Event) (last : World) → w.stop ≤ 2 → Runs w events last
    → Rises w.stop last.stop
run_rises w [] last few runs = let same = ap (λ (x : World). x.stop) runs in
    (omega arith, omega arith)
run_rises w (e ∷ events) last few runs =
    let step = step_rises w e few runs.0 in
    let rest = run_rises (effect w e) events last step.1 runs.1 in
    let a = step.0 in let b = rest.0 in (omega arith, rest.1)

-- a run goes through a World between any two of its events
cut_run : (w : World) (before after : List Event) (last : World) → Runs w (before ++ after) last
    → (u : World) × Runs w before u × Runs u after last
cut_run w [] after last runs = (w, refl, runs)
cut_run w (e ∷ before) after last runs =
    let rest = cut_run (effect w e) before after last runs.1 in
    (rest.0, (runs.0, rest.1), rest.2)

pub notified_show : NotifiedStopsShow
notified_show k s history w r before between after stopper notifier is =
    let first = world_at_first k in
    let whole = subst (λ h. Runs first h w) is r.runs in
    let at = cut_run first (before ++ Stop stopper ∷ between) (NotifyAll notifier ∷ after) w whole in
    let from = cut_run first before (Stop stopper ∷ between) at.0 at.1 in
    let begun = run_rises first before from.0 (omega arith) from.1 in
    let stopped = run_rises (effect from.0 (Stop stopper)) between at.0 (omega arith) from.2.1 in
    let u = at.0 in
    let notified = all_rises u.stop stopped.1 in
    let ended = run_rises (effect u (NotifyAll notifier)) after w notified.1 at.2.1 in
    let two = ⊎_elim
    (λ one. cond-true (u.stop == 1) 2 u.stop (eq-eqb u.stop 1 one))
    (λ ne. cond-false (u.stop == 1) 2 u.stop (ne_eqb u.stop 1 ne)
    ∙ (let a = stopped.0 in let b = stopped.1 in omega arith))
    (cases_eq u.stop 1) in
    let a = ended.0 in let b = ended.1 in omega arith
