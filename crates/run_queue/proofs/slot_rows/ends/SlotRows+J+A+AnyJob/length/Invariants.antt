-- The seats of these rows.
use Rattle.run_queue.specs.SlotSeats.{seat_count_of}
use Rattle.run_queue.proofs.slot_rows.ends.SlotRows+J+A+AnyJob.length.Given as goal

abbrev pub ghosts-look_at : goal.ghosts-look_at
ghosts-look_at g a = record { seats = seat_count_of a.self.now }
