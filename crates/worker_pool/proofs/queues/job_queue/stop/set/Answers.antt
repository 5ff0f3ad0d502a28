use Rattle.std.proofs.Common.{rules, refl}
use Rattle.atomic_table.specs.Table.{keeps}
use Rattle.worker_pool.proofs.queues.job_queue.stop.set.Goals as goal

pub store-requires : goal.store-requires
store-requires c =
    (search rules, search rules, λ s rule homes at small. (_, keeps, tt, tt, (refl, refl)))
