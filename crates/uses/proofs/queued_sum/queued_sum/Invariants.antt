-- The count and the ledger that this call's types name.
use Rattle.event_count.specs.Rows.Seats.{row_count_id}
use Rattle.uses.proofs.queued_sum.queued_sum.Given as goal

abbrev pub ghosts-summed-C-Crew : goal.ghosts-summed-C-Crew
ghosts-summed-C-Crew g a = record { count = row_count_id a.count }

abbrev pub ghosts-summed-C-Ledger : goal.ghosts-summed-C-Ledger
ghosts-summed-C-Ledger g a = record { name = a.blank.name; parts = a.blank.parts }
