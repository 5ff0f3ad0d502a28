-- The step that is evaluated next, of the steps left.
use Rattle.std.specs.Prelude.{◌≡◌, ℕ, ◌+◌, ◌<◌, ◌^◌, List, ◌∷◌, drop, false}
use Rattle.tensor_ops.specs.Term.{Term}
use Rattle.tensor_reduce.specs.private.Fusing.{fused_with}
use Rattle.tensor_reduce.specs.Plan.{term_of_step, dims_of_step}
use Rattle.tensor_reduce.specs.private.Readers.{reads, are_reading}
use Rattle.tensor_reduce.specs.private.Schedules.{IsScheduleFor, IsFusingFor}
use Rattle.tensor_reduce.specs.declared.schedule.Schedule.{Schedule}
use Rattle.tensor_reduce.specs.declared.schedule.next.Next.{Next}
use Rattle.tensor_reduce.specs.declared.schedule.next.Next.TheVariants.{Alone, Fused, BothFused}
use Rattle.tensor_reduce.specs.declared.step.Step.{Step}

-- the number of steps that are fused into it
abbrev pub fused_in : Next → ℕ
fused_in (Alone step schedule) = 0
fused_in (Fused n operand reader schedule) = 1
fused_in (BothFused n first second reader schedule) = 2

-- the last number by which it reads a step that is fused into it
abbrev pub last_number : Next → ℕ
last_number (Alone step schedule) = 0
last_number (Fused n operand reader schedule) = n
last_number (BothFused n first second reader schedule) = n + 1

-- the term that is evaluated
abbrev pub next_term : Next → Term
next_term (Alone step schedule) = term_of_step step.now
next_term (Fused n operand reader schedule) =
    fused_with n (term_of_step operand.now) (term_of_step reader.now)
next_term (BothFused n first second reader schedule) =
    fused_with n (term_of_step first.now)
    (fused_with (n + 1) (term_of_step second.now) (term_of_step reader.now))

-- the dims of the term that is evaluated
abbrev pub next_dims : Next → List ℕ
next_dims (Alone step schedule) = dims_of_step step.now
next_dims (Fused n operand reader schedule) = dims_of_step reader.now
next_dims (BothFused n first second reader schedule) = dims_of_step reader.now

-- the schedule of the term that is evaluated
abbrev pub next_schedule : Next → Schedule
next_schedule (Alone step schedule) = schedule
next_schedule (Fused n operand reader schedule) = schedule
next_schedule (BothFused n first second reader schedule) = schedule

-- the first of the steps left, with a schedule
pub record IsAlone (left : List Step) (step : Step) (schedule : Schedule) : Type 0 where
  pub steps : left ≡ step ∷ drop 1 left
  pub fits : IsScheduleFor schedule (term_of_step step)

-- the second of the steps left, with the first fused into it, whose tensor no later step reads
pub record IsFused (left : List Step) (n : ℕ) (operand reader : Step) (schedule : Schedule)
    : Type 0 where
  pub steps : left ≡ operand ∷ reader ∷ drop 2 left
  pub fits : IsFusingFor schedule (term_of_step reader)
  pub unread : are_reading n (drop 2 left) ≡ false
  pub small : n < 2 ^ 32

-- the third of the steps left, with the first two fused into it, whose tensors no other step reads
pub record AreFused (left : List Step) (n : ℕ) (first second reader : Step)
    (schedule : Schedule) : Type 0 where
  pub steps : left ≡ first ∷ second ∷ reader ∷ drop 3 left
  pub fits : IsFusingFor schedule (term_of_step reader)
  pub apart : reads n (term_of_step second) ≡ false
  pub unread : are_reading n (drop 3 left) ≡ false
  pub unread_too : are_reading (n + 1) (drop 3 left) ≡ false
  pub small : n + 1 < 2 ^ 32

-- one of these three, if count tensors stand before the steps left
abbrev pub IsNextOf : List Step → ℕ → Next → Type 0
IsNextOf left count (Alone step schedule) = IsAlone left step.now schedule
IsNextOf left count (Fused n operand reader schedule) =
    (n ≡ count) × IsFused left n operand.now reader.now schedule
IsNextOf left count (BothFused n first second reader schedule) =
    (n ≡ count) × AreFused left n first.now second.now reader.now schedule
