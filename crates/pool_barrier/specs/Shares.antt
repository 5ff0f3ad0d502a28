-- The parts of barriers, shares and waiters that contracts name.
use Rattle.std.specs.Prelude.{◌≡◌, ℕ}
use Rattle.atomic_table.specs.Seated.{TableId}
use Rattle.pool_barrier.specs.declared.view.Phase.TheVariants.{Fresh, Done}
use Rattle.pool_barrier.specs.declared.view.View.TheVariants.{Waits}
use Rattle.pool_barrier.specs.declared.share.Share.{Share}
use Rattle.pool_barrier.specs.declared.share.Waiter.{Waiter}
use Rattle.pool_barrier.specs.declared.barrier.Barrier.{Barrier}
use Rattle.pool_barrier.specs.declared.woken.Woken.{Woken}
use Rattle.pool_barrier.specs.Views.{notices_in, given_in, found_in}

-- the notices that a share has left to give
abbrev pub notices_of : Share → ℕ
notices_of share = notices_in share.seat.me.0

-- the notices that a share has given
abbrev pub given_of : Share → ℕ
given_of share = given_in share.seat.me.0

-- the word that the share's last notice found says that one notice was left, and that the waiter had
-- set its flag
abbrev pub HasFoundLast : Share → Type 0
HasFoundLast share = found_in share.seat.me.0 ≡ 3

-- the share woke the waiter after its last notice
abbrev pub HasWoken : Share → Woken → Type 0
HasWoken share woken = woken.seat.value ≡ share.seat

-- the barrier to which the share belongs
abbrev pub share_id : Share → TableId
share_id share = share.seat.table_id

-- the barrier to which the waiter belongs
abbrev pub waiter_id : Waiter → TableId
waiter_id waiter = waiter.seat.table_id

-- the waiter has not waited
abbrev pub IsFresh : Waiter → Type 0
IsFresh waiter = waiter.seat.me.0 ≡ Waits Fresh

-- the waiter has seen that no notice is left
abbrev pub IsDone : Waiter → Type 0
IsDone waiter = waiter.seat.me.0 ≡ Waits Done

module _ {A : Type 0} where
  -- the number of notices with which the barrier was made
  abbrev pub count_of : Barrier A → ℕ
  count_of barrier = barrier.table.shared.key

  -- what distinguishes this barrier from others
  abbrev pub barrier_id : Barrier A → TableId
  barrier_id barrier = barrier.table.shared.table_id

  -- the share was made by the barrier
  abbrev pub IsShareOf : Barrier A → Share → Type 0
  IsShareOf barrier share = share_id share ≡ barrier_id barrier

  -- the waiter was made by the barrier
  abbrev pub IsWaiterOf : Barrier A → Waiter → Type 0
  IsWaiterOf barrier waiter = waiter_id waiter ≡ barrier_id barrier
