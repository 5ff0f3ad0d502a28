use Rattle.std.proofs.Common.{rules, refl}
use Rattle.atomic_table.specs.Table.{keeps}
use Rattle.worker_pool.proofs.queues.job_queue.stop.is_set.Goals as goal

pub load-requires : goal.load-requires
load-requires c =
    (search rules, search rules, λ s rule homes at small. (_, keeps, tt, tt, (refl, refl)))
