use Rattle.std.proofs.Common.{◌≡◌, Result, Ok, Err}
use Rattle.parallel_for.proofs.evaluation.parallel_for.Goals as goal

module _ {T E U F : Type 0} {items : T} {fault : E} {found : F} {checked : Result U F} {u : U} where
  -- what gives items gives no fault, and what was checked before has none
  no_fault : {B C : Type 0}
      → checked ≡ Ok u
      → (C → checked ≡ Err found)
      → (Ok items ≡ Err fault → B × C) × (B × C → Ok items ≡ Err fault)
  no_fault well faulty = (λ fails. absurd (cc), λ bad. let is = faulty bad.1 in absurd (cc))

  -- nor is a result with items a fault that two facts describe
  no_fault-of_two : {B C D : Type 0}
      → checked ≡ Ok u
      → (C × D → checked ≡ Err found)
      → (Ok items ≡ Err fault → B × C × D) × (B × C × D → Ok items ≡ Err fault)
  no_fault-of_two well faulty =
      (λ fails. absurd (cc), λ bad. let is = faulty (bad.1, bad.2) in absurd (cc))

pub returns-then-n-eq0-clause-bad_workers : goal.returns-then-n-eq0-clause-bad_workers
returns-then-n-eq0-clause-bad_workers g c =
    no_fault c.in_default.is c.check.ensures.bad_workers.1

pub returns-then-n-eq0-clause-bad_partition : goal.returns-then-n-eq0-clause-bad_partition
returns-then-n-eq0-clause-bad_partition g c =
    no_fault-of_two c.in_default.is c.check.ensures.bad_partition.1

pub returns-then-n-block-clause-bad_workers : goal.returns-then-n-block-clause-bad_workers
returns-then-n-block-clause-bad_workers g c =
    no_fault c.in_default.is c.check.ensures.bad_workers.1

pub returns-then-n-block-clause-bad_partition : goal.returns-then-n-block-clause-bad_partition
returns-then-n-block-clause-bad_partition g c =
    no_fault-of_two c.in_default.is c.check.ensures.bad_partition.1

pub returns-clause-bad_workers : goal.returns-clause-bad_workers
returns-clause-bad_workers g c = no_fault c.in_default.is c.check.ensures.bad_workers.1

pub returns-clause-bad_partition : goal.returns-clause-bad_partition
returns-clause-bad_partition g c = no_fault-of_two c.in_default.is c.check.ensures.bad_partition.1
