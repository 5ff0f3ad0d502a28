-- The account of jobs: which jobs came in, and what became of each of them.
use Rattle.std.specs.Prelude.{◌≡◌, ℕ, ◌-◌, ◌^◌, List, ◌++◌, map, min, sum_by, All}
use Rattle.std.specs.List.{flat_map}
use Rattle.run_queue.specs.Bag.{SameBag}
use Rattle.worker_pool.specs.Laws.{JobLaw}
use Rattle.worker_pool.specs.Nodes.{Node, IsLawful, job_of, kids_of, outs_of, left_of, refusals_of}

-- a number as a saturating u64 counts it: at most 2^64 - 1
abbrev pub counted : ℕ → ℕ
counted n = min n (2 ^ 64 - 1)

-- Jobs came in, some jobs were passed on to others, and the nodes say what became of the jobs
-- between. The nodes left these outs and these jobs, and this many were refused. If accounts are
-- kept, the jobs of the nodes and the passed jobs are, as a bag, the jobs that came in and all
-- kids.
pub record Account {J O : Type 0} (keeps : Type 0) (law : JobLaw J O)
    (came passed : List J) (outs : List O) (left : List J) (refused : ℕ) : Type 0 where
  pub nodes : List (Node J O)
  pub lawful : All (IsLawful law) nodes
  pub outs_are : outs ≡ flat_map outs_of nodes
  pub left_are : left ≡ flat_map left_of nodes
  pub refused_are : refused ≡ counted (sum_by refusals_of nodes)
  pub balance : keeps → SameBag (map job_of nodes ++ passed) (came ++ flat_map kids_of nodes)
