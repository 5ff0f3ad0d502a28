use Rattle.std.proofs.Common.{rules, refl, arith}
use Rattle.worker_pool.specs.Nodes.{lacks_memory, is_abandoned}
use Rattle.worker_pool.proofs.Runnings.{ran-forks, ran-refused, ran-ends}
use Rattle.worker_pool.proofs.Runnings.{went-put, went-ran, went-returned}
use Rattle.worker_pool.proofs.working.run.+run.Goals as goal

pub returns-in_default-clause-ran : goal.returns-in_default-clause-ran
returns-in_default-clause-ran g t c =
    ran-refused _ _ _ _ _ (is_abandoned _ (search rules))

pub returns-in-Err-clause-ran : goal.returns-in-Err-clause-ran
returns-in-Err-clause-ran g t c = ran-refused _ _ _ _ _ (lacks_memory _ (search rules))

pub returns-in-Ok-Done-clause-ran : goal.returns-in-Ok-Done-clause-ran
returns-in-Ok-Done-clause-ran g t c =
    ran-ends _ _ _ _ _ _ _ (rw c.in-Ok-Done.field-0-is at c.in-Ok-Done.ensures.law, tt)
    c.keep.ensures.items

pub returns-in_default-pass-clause-ran : goal.returns-in_default-pass-clause-ran
returns-in_default-pass-clause-ran g t c =
    let ran = c.run.ensures.ran in
    let counts = ran.refused_are in
    ran-forks _ _ _ c.in-Ok-Fork.kid c.in-Ok-Fork.rest _ _ _ _ _ _ _ _ _ (
      rw c.in-Ok-Fork.field-0-is at c.in-Ok-Fork.ensures.law,
      rw c.in-Ok-Fork.field-0-is at c.in-Ok-Fork.ensures.lighter,
    )
    (went-put _ _ _ _ _ _ _ c.in_default-pass.ensures.puts refl) ran (omega arith)

pub returns-then-is_err-clause-ran : goal.returns-then-is_err-clause-ran
returns-then-is_err-clause-ran g t c =
    ran-forks _ _ _ c.in-Ok-Fork.kid c.in-Ok-Fork.rest _ _ _ _ _ _ _ _ _ (
      rw c.in-Ok-Fork.field-0-is at c.in-Ok-Fork.ensures.law,
      rw c.in-Ok-Fork.field-0-is at c.in-Ok-Fork.ensures.lighter,
    )
    (went-returned _ _ c.in-Err-pass.kid _ _ _ _ _ _ c.in-Err-pass.ensures.returned
    (went-ran _ _ _ _ _ _ _ _ _ _ c.in-Err-pass.ensures.puts c.reserve.ensures.items
    (ran-refused _ _ _ _ _ (is_abandoned _ (search rules)))))
    c.run-then-is_err.ensures.ran (search rules)

pub returns-else-is_err-clause-ran : goal.returns-else-is_err-clause-ran
returns-else-is_err-clause-ran g t c =
    ran-forks _ _ _ c.in-Ok-Fork.kid c.in-Ok-Fork.rest _ _ _ _ _ _ _ _ _ (
      rw c.in-Ok-Fork.field-0-is at c.in-Ok-Fork.ensures.law,
      rw c.in-Ok-Fork.field-0-is at c.in-Ok-Fork.ensures.lighter,
    )
    (went-returned _ _ c.in-Err-pass.kid _ _ _ _ _ _ c.in-Err-pass.ensures.returned
    (went-ran _ _ _ _ _ _ _ _ _ _ c.in-Err-pass.ensures.puts c.reserve.ensures.items
    c.run-refused.ensures.ran))
    c.run-in-Ok-Fork.ensures.ran (search rules)
