use Rattle.std.proofs.Common.{rules, refl}
use Rattle.worker_pool.proofs.queues.job_queue.stop.new_seat.Goals as goal

pub load_new_seat-found-requires : goal.load_new_seat-found-requires
load_new_seat-found-requires c = (search rules, λ s rule homes at. (_, tt, (refl, refl)))
