-- Memory that was refused is another fault than too many rows.
use Rattle.std.proofs.Common.{arith}
use Rattle.std.proofs.lemmas.List.{map-id}
use Rattle.run_queue.proofs.Faults.{not_too_many}
use Rattle.run_queue.proofs.locked_rows.LockedRowsRows.open.Goals as goal

pub returns-in_err-new-clause-too_many : goal.returns-in_err-new-clause-too_many
returns-in_err-new-clause-too_many g c =
    not_too_many _ _ (omega arith) c.from_residual.ensures.1

pub returns-in_err-seats-clause-too_many : goal.returns-in_err-seats-clause-too_many
returns-in_err-seats-clause-too_many g c =
    not_too_many _ _ (omega arith) c.from_residual-in_err-seats.ensures.1

pub returns-clause-too_many : goal.returns-clause-too_many
returns-clause-too_many g c =
    (λ e. cc, λ many. absurd (omega (arith, many)))

pub returns-clause-numbers : goal.returns-clause-numbers
returns-clause-numbers g c =
    rw (map-id, c.in_ok-seats.ensures, c.from.ensures, c.from-2.ensures)
