-- What became of single jobs.
use Rattle.std.specs.Prelude.{ℕ, List, [], ◌∷◌, Option, Some, None}
use Rattle.worker_pool.specs.declared.job.Progress.TheVariants as progress
use Rattle.worker_pool.specs.Laws.{JobLaw}

-- The steps from the job on, each on the rest of the step before, fork these kids in this order.
-- They end in the out. They end without an out if a step ran out of memory, or if an allocation
-- before a step failed and the rest of the job was abandoned.
pub data Runs {J O : Type 0} (law : JobLaw J O) : J → List J → Option O → Type 0 where
  ends : (job : J) (out : O) → law.steps job (progress.Done out) → Runs law job [] (Some out)
  lacks_memory : (job : J) → law.may_lack_memory job → Runs law job [] None
  is_abandoned : (job : J) → law.may_be_abandoned job → Runs law job [] None
  forks : (job kid rest : J) (kids : List J) (out : Option O)
      → law.steps job (progress.Fork kid rest) → Runs law rest kids out
      → Runs law job (kid ∷ kids) out

-- a job that left its out, one that was refused for lack of memory, or one that was never run
pub data Node (J O : Type 0) : Type 0 where
  Done : (job : J) (out : O) (kids : List J) → Node J O
  Refused : (job : J) (kids : List J) → Node J O
  Left : (job : J) → Node J O

module _ {J O : Type 0} where
  -- the node's job
  abbrev pub job_of : Node J O → J
  job_of (Done job out kids) = job
  job_of (Refused job kids) = job
  job_of (Left job) = job

  -- the kids that the job forked
  abbrev pub kids_of : Node J O → List J
  kids_of (Done job out kids) = kids
  kids_of (Refused job kids) = kids
  kids_of (Left job) = []

  -- the out that the job left, if it left one
  abbrev pub outs_of : Node J O → List O
  outs_of (Done job out kids) = out ∷ []
  outs_of node = []

  -- the job, if it was never run
  abbrev pub left_of : Node J O → List J
  left_of (Left job) = job ∷ []
  left_of node = []

  -- 1 if the job was refused, otherwise 0
  abbrev pub refusals_of : Node J O → ℕ
  refusals_of (Refused job kids) = 1
  refusals_of node = 0

  -- a run of the job that the law allows leads to what the node says
  abbrev pub IsLawful : JobLaw J O → Node J O → Type 0
  IsLawful law (Done job out kids) = Runs law job kids (Some out)
  IsLawful law (Refused job kids) = Runs law job kids None
  IsLawful law (Left job) = Unit {0}
