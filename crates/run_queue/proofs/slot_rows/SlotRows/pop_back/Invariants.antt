-- What is known of the jobs of these rows.
use Rattle.run_queue.specs.SlotSeats.{of_key}
use Rattle.run_queue.proofs.slot_rows.SlotRows.pop_back.Given as goal

abbrev pub ghosts-pop_at : goal.ghosts-pop_at
ghosts-pop_at g a = record { known = g.F.Contents.fits (of_key a.self.now) }
