-- The law of a kind of jobs, without the types that carry it.
use Rattle.worker_pool.specs.declared.job.Job as job
use Rattle.worker_pool.specs.declared.job.Progress.{Progress}
use Rattle.worker_pool.specs.Steps.{ForksLighter}

-- Which progress a step of a job may make, which jobs may run out of memory in a step, and which
-- jobs may be abandoned.
pub record JobLaw (J O : Type 0) : Type 1 where
  pub steps : J → Progress J O → Type 0
  pub may_lack_memory : J → Type 0
  pub may_be_abandoned : J → Type 0

-- the law of a kind of jobs in a context: a step leaves lighter jobs, and something is left of a
-- job that is abandoned
abbrev pub law_of : {J A C O N : Type 0} → job.Ghosts J A C O N → C → JobLaw J O
law_of {J} {A} {C} {O} {N} law ctx = record {
  steps = λ job progress. law.allows ctx job progress
      × ForksLighter law.weight_of (law.weight_of job) progress;
  may_lack_memory = law.may_lack_memory ctx;
  may_be_abandoned = λ it. (left : N) × law.abandons ctx it left;
}
