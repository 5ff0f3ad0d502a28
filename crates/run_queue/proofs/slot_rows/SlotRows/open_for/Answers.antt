-- Each part was made with the rows that were asked for.
use Rattle.std.proofs.Common.{◌∙◌, ap, arith, ◌*◌}
use Rattle.run_queue.proofs.Faults.{not_too_many}
use Rattle.run_queue.proofs.slot_rows.SlotRows.open_for.Goals as goal

pub returns-in_err-backs-clause-too_many : goal.returns-in_err-backs-clause-too_many
returns-in_err-backs-clause-too_many g c =
    not_too_many _ _ (omega arith) c.from_residual.ensures.1

pub returns-in_err-left-clause-too_many : goal.returns-in_err-left-clause-too_many
returns-in_err-left-clause-too_many g c =
    not_too_many _ _ (omega arith) c.from_residual-in_err-left.ensures.1

pub returns-in_err-table-clause-too_many : goal.returns-in_err-table-clause-too_many
returns-in_err-table-clause-too_many g c =
    not_too_many _ _ (omega arith) c.from_residual-in_err-table.ensures.1

pub invariant_of-result : goal.invariant_of-result
invariant_of-result g c =
    let made = c.in_ok-table.ensures in
    record {
      words = omega (arith, made.words, made.slots);
      slots = made.slots;
      each_back = c.in_ok-backs.ensures;
      room = c.in_ok-left.ensures ∙ ap (λ n. n * 1024) c.from.ensures;
    }
