use Rattle.std.proofs.Common.{◌≡◌}
use Rattle.worker_pool.proofs.standing.threads.take_back.Given as goal

-- what is held is what was given, whoever else still has it
abbrev pub invariant-loop : goal.invariant-loop
invariant-loop g l = record {
  can : (goal.iterator-loop g).can_next l.iterator';
  finite : (goal.iterator-loop g).is_finite l.iterator';
  same : l.held ≡ l.fn.shared;
}
