-- What a task leaves.
use Rattle.std.specs.Prelude.{◌≡◌, ℕ}
use Rattle.worker_pool.specs.declared.boxed.TaskOut.{TaskOut}
use Rattle.worker_pool.specs.declared.job.Progress.{Progress}
use Rattle.worker_pool.specs.declared.job.Progress.TheVariants.{Fork, Done}

-- the job is done, and left the tag and an answer that its task may give
abbrev pub IsAnswered : {J : Type 0} → (tag : ℕ) → (may_answer : ℕ → Type 0)
    → Progress J TaskOut → Type 0
IsAnswered tag may_answer (Fork kid rest) = ⊥
IsAnswered tag may_answer (Done out) = (out.tag ≡ tag) × may_answer out.answer
