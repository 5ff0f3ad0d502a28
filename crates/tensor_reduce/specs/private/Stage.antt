-- The steps that are evaluated together: the next of the steps left, or the reduction behind it,
-- which combines the values of the next leaf by leaf.
use Rattle.std.specs.Prelude.{◌≡◌, ℕ, ◌+◌, ◌<◌, ◌^◌, List, ◌∷◌, drop, true, false}
use Rattle.tensor_ops.specs.Term.{Term}
use Rattle.tensor_reduce.specs.private.Fusing.{fused_with}
use Rattle.tensor_reduce.specs.private.Next.{IsNextOf, fused_in, next_term, next_dims, next_schedule}
use Rattle.tensor_reduce.specs.private.Next.{last_number}
use Rattle.tensor_reduce.specs.Plan.{term_of_step, dims_of_step}
use Rattle.tensor_reduce.specs.private.Readers.{is_over, are_reading}
use Rattle.tensor_reduce.specs.private.Schedules.{IsFusingFor}
use Rattle.tensor_reduce.specs.declared.schedule.Schedule.{Schedule}
use Rattle.tensor_reduce.specs.declared.schedule.stage.Stage.{Stage}
use Rattle.tensor_reduce.specs.declared.schedule.stage.Stage.TheVariants.{Plain, Reduced}
use Rattle.tensor_reduce.specs.declared.step.Step.{Step}

-- the number of steps that are fused into the stage's last one
abbrev pub fused_in_stage : Stage → ℕ
fused_in_stage (Plain next) = fused_in next
fused_in_stage (Reduced next n reduction schedule) = fused_in next + 1

-- the numbers by which fused steps are read have 32 bits
abbrev pub HasNumbers : Stage → Type 0
HasNumbers (Plain next) = last_number next < 2 ^ 32
HasNumbers (Reduced next n reduction schedule) = (last_number next < 2 ^ 32) × (n < 2 ^ 32)

-- the term that is evaluated
abbrev pub stage_term : Stage → Term
stage_term (Plain next) = next_term next
stage_term (Reduced next n reduction schedule) =
    fused_with n (next_term next) (term_of_step reduction.now)

-- the dims of the term that is evaluated
abbrev pub stage_dims : Stage → List ℕ
stage_dims (Plain next) = next_dims next
stage_dims (Reduced next n reduction schedule) = dims_of_step reduction.now

-- the schedule of the term that is evaluated
abbrev pub stage_schedule : Stage → Schedule
stage_schedule (Plain next) = next_schedule next
stage_schedule (Reduced next n reduction schedule) = schedule

-- the first of the steps behind tensor n, an operation on n alone, if no later step reads n
pub record IsReducing (behind : List Step) (n : ℕ) (reduction : Step) (schedule : Schedule)
    : Type 0 where
  pub steps : behind ≡ reduction ∷ drop 1 behind
  pub over : is_over n (term_of_step reduction) ≡ true
  pub fits : IsFusingFor schedule (term_of_step reduction)
  pub unread : are_reading n (drop 1 behind) ≡ false
  pub small : n < 2 ^ 32

-- a stage of the steps left, if count tensors stand before them
abbrev pub IsStageOf : List Step → ℕ → Stage → Type 0
IsStageOf left count (Plain next) = IsNextOf left count next
IsStageOf left count (Reduced next n reduction schedule) =
    IsNextOf left count next
    × ((n ≡ count + fused_in next)
    × IsReducing (drop (fused_in next + 1) left) n reduction.now schedule)
