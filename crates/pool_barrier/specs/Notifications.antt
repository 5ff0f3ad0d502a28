-- The part of a notification that contracts name.
use Rattle.pool_barrier.specs.declared.barrier.Barrier.{Barrier}
use Rattle.pool_barrier.specs.declared.notification.Notification.{Notification}

-- the barrier of a notification, which has one notice
abbrev pub barrier_of : {A : Type 0} → Notification A → Barrier A
barrier_of notification = notification.barrier
