use Rattle.std.proofs.Common.{◌≡◌, map}
use Rattle.uses.proofs.stolen_sum.seats_of.Given as goal

-- the seats so far
abbrev pub invariant-loop-one : goal.invariant-loop-one
invariant-loop-one l = l.seats.items ≡ map (λ t. t.seat) l.yielded
