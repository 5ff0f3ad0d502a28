-- The step that is evaluated next gives its tensor, whatever is fused into it.
use Rattle.std.proofs.Common.{◌≡◌, ℕ, ◌+◌, ◌-◌, ◌<◌, ◌≤◌, ◌^◌, List, [], ◌∷◌, ◌++◌}
use Rattle.std.proofs.Common.{true, Ok, length, get_or, take, drop}
use Rattle.std.proofs.Common.{ap, sym, subst, ◌∙◌, arith}
use Rattle.std.proofs.lemmas.List.{length-append, length-drop, take_all}
use Rattle.tensor_ops.specs.Contents.{Contents}
use Rattle.tensor_ops.specs.Legal.{widest}
use Rattle.tensor_ops.specs.Result.{dims_of}
use Rattle.tensor_ops.specs.Term.{has_inputs}
use Rattle.tensor_reduce.specs.private.Held.{AreHeldFor}
use Rattle.tensor_reduce.specs.private.Next.{IsNextOf, fused_in, last_number}
use Rattle.tensor_reduce.specs.private.Next.{next_term, next_dims, next_schedule}
use Rattle.tensor_reduce.specs.Plan.{term_of_step}
use Rattle.tensor_reduce.specs.private.Schedules.{IsScheduleFor}
use Rattle.tensor_reduce.specs.declared.schedule.next.Next.{Next}
use Rattle.tensor_reduce.specs.declared.schedule.next.Next.TheVariants.{Alone, Fused, BothFused}
use Rattle.tensor_reduce.specs.declared.step.Step.{Step}
use Rattle.tensor_reduce.proofs.Held.{IsFusedTerm, IsReady-held, same-first}
use Rattle.tensor_reduce.proofs.Held.{names-two, dims-two, IsFusedTerm-two}
use Rattle.tensor_reduce.proofs.Held.{names-three, dims-three, IsFusedTerm-three}
use Rattle.tensor_reduce.proofs.Schedules.{IsScheduleFor-fusing}
use Rattle.tensor_reduce.proofs.Schedules.{IsFusingFor-combining, IsFusingFor-fused_with}

pub two-steps : (left : List Step) (s r : Step) → 2 ≤ length left → s ≡ get_or left 0 s
    → r ≡ get_or left 1 r → left ≡ s ∷ r ∷ drop 2 left
two-steps [] s r two first second = absurd (omega arith)
two-steps (x ∷ []) s r two first second = absurd (omega arith)
two-steps (x ∷ y ∷ later) s r two first second = (cc)

pub three-steps : (left : List Step) (s r c : Step) → 3 ≤ length left → s ≡ get_or left 0 s
    → r ≡ get_or left 1 r → c ≡ get_or left 2 c → left ≡ s ∷ r ∷ c ∷ drop 3 left
three-steps [] s r c three first second third = absurd (omega arith)
three-steps (x ∷ []) s r c three first second third = absurd (omega arith)
three-steps (x ∷ y ∷ []) s r c three first second third = absurd (omega arith)
three-steps (x ∷ y ∷ z ∷ later) s r c three first second third = (cc)

-- the steps behind n others, as a slice has them
pub later-steps : (left : List Step) (n : ℕ) → take (length left - n) (drop n left) ≡ drop n left
later-steps left n = take_all (length left - n) (drop n left) (omega (arith, length-drop n left))

-- the number of the tensor behind those that are there
pub next-number : (inputs earlier : List Contents) (from : ℕ) → from ≡ length inputs
    → from + length earlier ≡ length (inputs ++ earlier)
next-number inputs earlier from behind = omega (arith, behind, length-append inputs earlier)

-- the next of the steps left, over what is held
module _ (left : List Step) (held all : List Contents) (are : AreHeldFor left held all) where
  there : (now : List Step) → left ≡ now → AreHeldFor now held all
  there now is = subst (λ l. AreHeldFor l held all) is are

  pub names-next : (next : Next) → IsNextOf left (length held) next
      → has_inputs (next_term next) (length held) ≡ true
  names-next (Alone s schedule) is =
      (IsReady-held s.now (drop 1 left) held all (there _ is.steps)).inputs
  names-next (Fused n s r schedule) is =
      names-two s.now r.now (drop 2 left) held all (there _ is.1.steps)
      (IsFusingFor-combining schedule (term_of_step r.now) is.1.fits) n (is.0 ∙ are.as_many)
  names-next (BothFused n s r c schedule) is =
      names-three s.now r.now c.now (drop 3 left) held all (there _ is.1.steps)
      (IsFusingFor-combining schedule (term_of_step c.now) is.1.fits) n (is.0 ∙ are.as_many)
      is.1.apart

  pub dims-next : (next : Next) → IsNextOf left (length held) next
      → dims_of widest (next_term next) held ≡ Ok (next_dims next)
  dims-next (Alone s schedule) is =
      (IsReady-held s.now (drop 1 left) held all (there _ is.steps)).dims
  dims-next (Fused n s r schedule) is =
      dims-two s.now r.now (drop 2 left) held all (there _ is.1.steps)
      (IsFusingFor-combining schedule (term_of_step r.now) is.1.fits) n (is.0 ∙ are.as_many)
  dims-next (BothFused n s r c schedule) is =
      dims-three s.now r.now c.now (drop 3 left) held all (there _ is.1.steps)
      (IsFusingFor-combining schedule (term_of_step c.now) is.1.fits) n (is.0 ∙ are.as_many)
      is.1.apart

  pub schedule-next : (next : Next) → IsNextOf left (length held) next
      → IsScheduleFor (next_schedule next) (next_term next)
  schedule-next (Alone s schedule) is = is.fits
  schedule-next (Fused n s r schedule) is =
      IsScheduleFor-fusing schedule _
      (IsFusingFor-fused_with schedule n (term_of_step s.now) (term_of_step r.now) is.1.fits)
  schedule-next (BothFused n s r c schedule) is =
      IsScheduleFor-fusing schedule _
      (IsFusingFor-fused_with schedule n (term_of_step s.now) _
      (IsFusingFor-fused_with schedule (n + 1) (term_of_step r.now) (term_of_step c.now)
      is.1.fits))

  pub numbers-next : (next : Next) → IsNextOf left (length held) next → last_number next < 2 ^ 32
  numbers-next (Alone s schedule) is = omega arith
  numbers-next (Fused n s r schedule) is = is.1.small
  numbers-next (BothFused n s r c schedule) is = is.1.small

  pub IsFusedTerm-next : (next : Next) → IsNextOf left (length held) next
      → IsFusedTerm (fused_in next) left held all (next_term next)
  IsFusedTerm-next (Alone s schedule) is =
      subst (λ l. IsFusedTerm 0 l held all (term_of_step s.now)) (sym is.steps)
      (same-first s.now (drop 1 left) held all (there _ is.steps))
  IsFusedTerm-next (Fused n s r schedule) is =
      subst (λ l. IsFusedTerm 1 l held all (next_term (Fused n s r schedule))) (sym is.1.steps)
      (IsFusedTerm-two s.now r.now (drop 2 left) held all (there _ is.1.steps)
      (IsFusingFor-combining schedule (term_of_step r.now) is.1.fits) n (is.0 ∙ are.as_many)
      is.1.unread)
  IsFusedTerm-next (BothFused n s r c schedule) is =
      subst (λ l. IsFusedTerm 2 l held all (next_term (BothFused n s r c schedule))) (sym is.1.steps)
      (IsFusedTerm-three s.now r.now c.now (drop 3 left) held all (there _ is.1.steps)
      (IsFusingFor-combining schedule (term_of_step c.now) is.1.fits) n (is.0 ∙ are.as_many)
      is.1.apart is.1.unread is.1.unread_too)
