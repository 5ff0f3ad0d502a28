-- What a thread's lists become when the thread runs one job.
use Rattle.std.specs.Prelude.{◌≡◌, ℕ, ◌+◌, List, [], ◌++◌, map, sum_by, All, Option, Some, None}
use Rattle.std.specs.Prelude.{option_to_list}
use Rattle.std.specs.List.{flat_map}
use Rattle.run_queue.specs.Bag.{total}
use Rattle.worker_pool.specs.Laws.{JobLaw}
use Rattle.worker_pool.specs.Nodes.{Runs, Node, IsLawful, job_of, kids_of, outs_of}
use Rattle.worker_pool.specs.Nodes.{left_of, refusals_of}
use Rattle.worker_pool.specs.Accounts.{Account, counted}

-- 1 if a run ended without an out, otherwise 0
abbrev pub refusal : {O : Type 0} → Option O → ℕ
refusal None = 1
refusal (Some out) = 0

-- The job ran, and so did its kids that were not passed on, and their kids: `others` are the nodes
-- of all but the job itself. The outs, the passed jobs and the refusals grow by what these runs
-- left.
pub record Ran {J O : Type 0} (keeps : Type 0) (law : JobLaw J O) (job : J)
    (puts puts_then : List J) (outs outs_then : List O) (refused : ℕ) : Type 0 where
  pub others : List (Node J O)
  pub kids : List J
  pub out : Option O
  pub passed : List J
  pub main : Runs law job kids out
  pub lawful : All (IsLawful law) others
  pub none_left : flat_map left_of others ≡ []
  pub outs_are : outs_then ≡ outs ++ (flat_map outs_of others ++ option_to_list out)
  pub puts_are : keeps → puts_then ≡ puts ++ passed
  pub refused_are : refused ≡ counted (sum_by refusals_of others + refusal out)
  pub balance : keeps → (weight : J → ℕ)
      → total weight (map job_of others) + total weight passed
      ≡ total weight kids + total weight (flat_map kids_of others)

-- These jobs came in and ran too, with all their kids. An account that held before now holds with
-- these jobs, what they left, and the refusals that they add.
pub record RanToo {J O : Type 0} (keeps : Type 0) (law : JobLaw J O) (jobs : List J)
    (outs outs_then : List O) (refused refused_then : ℕ) : Type 0 where
  pub account : (came passed : List J) → Account keeps law came passed outs [] refused
      → Account keeps law (came ++ jobs) passed outs_then [] refused_then

-- These jobs came in, and each of them ran or is left. An account that held before now holds with
-- these jobs too.
pub record AreSettled {J O : Type 0} (keeps : Type 0) (law : JobLaw J O)
    (jobs : List J) (outs outs_then : List O) (left : List J) (refused refused_then : ℕ)
    : Type 0 where
  pub account : (came passed : List J) → Account keeps law came passed outs [] refused
      → Account keeps law (came ++ jobs) passed outs_then left refused_then
