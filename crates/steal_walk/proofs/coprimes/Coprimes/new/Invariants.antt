-- The coprimes below the next number are listed, and there is room for the others.
use Rattle.std.proofs.Common.{vec_len, vec_capacity}
use Rattle.steal_walk.proofs.Listed.{HasListed}
use Rattle.steal_walk.proofs.coprimes.Coprimes.new.Given as goal

abbrev pub invariant-loop-number : goal.invariant-loop-number
invariant-loop-number g l =
    HasListed l.n l.number l.numbers.items (vec_len l.numbers) (vec_capacity l.numbers)
