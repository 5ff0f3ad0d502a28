-- What an opener has told its workers.
use Rattle.std.specs.Prelude.{ℕ}
use Rattle.worker_pool.specs.declared.queues.job_queue.told.Told.{Told}
use Rattle.worker_pool.specs.Stops.{stored_of}

-- what the opener had stored in the stop word when it last woke all workers
abbrev pub told_of : Told → ℕ
told_of told = stored_of told.seat.value
