-- The steps of a job.
use Rattle.std.specs.Prelude.{ℕ, ◌<◌}
use Rattle.worker_pool.specs.declared.job.Progress.{Progress}
use Rattle.worker_pool.specs.declared.job.Progress.TheVariants.{Fork, Done}

-- both parts of a fork weigh less than this
abbrev pub ForksLighter : {J O : Type 0} → (J → ℕ) → ℕ → Progress J O → Type 0
ForksLighter weight most (Fork kid rest) = (weight kid < most) × (weight rest < most)
ForksLighter weight most (Done out) = Unit {0}
