-- What a worker's turn and a worker's rest find.
use Rattle.std.specs.Prelude.{List, [], ◌∷◌}
use Rattle.waking_rows.specs.declared.row_point.Rested.{Rested}
use Rattle.waking_rows.specs.declared.row_point.Rested.TheVariants as rested
use Rattle.worker_pool.specs.declared.working.worker.Turn.{Turn}
use Rattle.worker_pool.specs.declared.working.worker.Turn.TheVariants.{Found, Again, Last}

-- the job that a turn found, if it found one
abbrev pub jobs_in : {J : Type 0} → Turn J → List J
jobs_in (Found job) = job ∷ []
jobs_in Again = []
jobs_in Last = []

-- the fact holds if the turn was the last
abbrev pub IfLast : {J : Type 0} → Turn J → Type 0 → Type 0
IfLast (Found job) fact = Unit {0}
IfLast Again fact = Unit {0}
IfLast Last fact = fact

-- the fact holds if the rest found the end
abbrev pub IfEnded : Rested → Type 0 → Type 0
IfEnded rested.Slept fact = Unit {0}
IfEnded (rested.Jobs row) fact = Unit {0}
IfEnded rested.Ended fact = fact
