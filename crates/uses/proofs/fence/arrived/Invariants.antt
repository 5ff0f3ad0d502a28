use Rattle.std.proofs.Common.{◌≡◌, ◌+◌, All, length, vec_capacity}
use Rattle.pool_barrier.specs.Shares.{notices_of, IsShareOf, IsWaiterOf}
use Rattle.uses.proofs.fence.arrived.Given as goal

-- each share so far has one notice, and the rest are in the first
abbrev pub invariant-loop : goal.invariant-loop
invariant-loop g l = record {
  all : IsShareOf l.barrier l.all;
  waiter : IsWaiterOf l.barrier l.waiter;
  left : notices_of l.all + l.counter ≡ l.threads;
  of : All (IsShareOf l.barrier) l.shares.items;
  one : All (λ share. notices_of share ≡ 1) l.shares.items;
  many : length l.shares.items ≡ l.counter;
  room : vec_capacity l.shares ≡ l.threads;
}
