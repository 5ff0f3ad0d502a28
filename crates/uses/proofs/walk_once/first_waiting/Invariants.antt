use Rattle.uses.proofs.Rounds.{IsRound}
use Rattle.uses.proofs.walk_once.first_waiting.Given as goal

-- the queues so far were empty
abbrev pub invariant-loop-queue : goal.invariant-loop-queue
invariant-loop-queue l = IsRound l.lengths l.yielded l.queue-iterator
