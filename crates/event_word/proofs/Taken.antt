-- Events that the program takes or refuses, as it tests them.
use Rattle.std.proofs.Common.{◌≡◌, ◌≢◌, ℕ, ◌==◌, if◌then◌else◌}
use Rattle.std.proofs.Common.{true, false, List}
use Rattle.std.proofs.Common.{get_or}
use Rattle.std.proofs.Common.{sym, ap, refl, ◌∙◌, subst}
use Rattle.std.proofs.lemmas.Bool.{cond-true, cond-false}
use Rattle.std.proofs.lemmas.Bool.{eq-eqb, ne_eqb}
use Rattle.event_word.specs.declared.phase.Phase.{Phase}
use Rattle.event_word.specs.declared.phase.Phase.TheVariants.{Ended}
use Rattle.event_word.specs.declared.event.Event.{Event}
use Rattle.event_word.specs.declared.world.World.TheInside.{Inside}
use Rattle.event_word.specs.World.{World}
use Rattle.event_word.specs.Step.{IsFree, IsQuiet, Possible, effect}
use Rattle.event_word.specs.Stored.{world_view}
use Rattle.event_word.specs.Play.{IsStep}

-- the stop number after a notification of all
pub stops_now : (stop : ℕ) → stop ≡ 1 → 2 ≡ (if stop == 1 then 2 else stop)
stops_now stop e = sym (cond-true (stop == 1) 2 stop (eq-eqb stop 1 e))

pub stops_not : (stop : ℕ) → stop ≢ 1 → stop ≡ (if stop == 1 then 2 else stop)
stops_not stop ne = sym (cond-false (stop == 1) 2 stop (ne_eqb stop 1 ne))

-- the same actor is free in the same World
pub free_same : (w v : World) (a b : ℕ) → v ≡ w → a ≡ b → IsFree w a → IsFree v b
free_same w v a b e f free = subst (λ x. IsFree x b) (sym e) (subst (IsFree w) f free)

pub quiet_same : (w v : World) (a b : ℕ) → v ≡ w → a ≡ b → IsQuiet w a → IsQuiet v b
quiet_same w v a b e f quiet = subst (λ x. IsQuiet x b) (sym e) (subst (IsQuiet w) f quiet)

-- the phase that a test found
pub phase_found : (phases found : List Phase) (n place : ℕ) (p : Phase) → found ≡ phases → place ≡ n
    → get_or found place Ended ≡ p → get_or phases n Ended ≡ p
phase_found phases found n place p e f at = ap (λ xs. get_or xs n Ended) (sym e)
    ∙ (ap (λ k. get_or found k Ended) (sym f) ∙ at)

module _ {A : Type 0} where
  -- an event taken is a step, and one refused is a step to the same World
  pub stepped : (i : Inside A) (now u : World) (e : Event) → world_view i ≡ now
      → Possible (world_view i) e → u ≡ effect (world_view i) e → IsStep now e true u
  stepped i now u e is p eq = (
    subst (λ w. Possible w e) is p,
    eq
        ∙ ap (λ w. effect w e) is,
  )

  pub refused : (i : Inside A) (now : World) (e : Event) → world_view i ≡ now
      → (Possible (world_view i) e → ⊥) → IsStep now e false now
  refused i now e is never = (λ q. never (subst (λ w. Possible w e) (sym is) q), refl)
