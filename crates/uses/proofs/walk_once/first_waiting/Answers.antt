use Rattle.std.proofs.Common.{subst}
use Rattle.uses.proofs.Rounds.{IsRound, all-empty}
use Rattle.uses.proofs.walk_once.first_waiting.Goals as goal

pub returns-clause-none : goal.returns-clause-none
returns-clause-none c =
    let lengths = c.args.lengths.now in
    all-empty lengths c.loop-queue.yielded
    (subst (IsRound lengths c.loop-queue.yielded) c.in-None.ensures.steps.0
    c.loop-queue.invariant)
