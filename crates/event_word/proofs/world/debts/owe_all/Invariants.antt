use Rattle.std.proofs.Common.{◌≡◌, ◌+◌, ◌++◌, map, take, vec_len, vec_capacity}
use Rattle.event_word.specs.Debts.{debt}
use Rattle.event_word.proofs.world.debts.owe_all.Given as goal

abbrev pub invariant-loop-seat : goal.invariant-loop-seat
invariant-loop-seat g l =
    (l.debts.items ≡ l.initial.debts.items ++ map (debt l.actor) (take l.seat-index l.seats))
    × (vec_len l.debts ≡ vec_len l.initial.debts + l.seat-index)
    × (vec_capacity l.debts ≡ vec_capacity l.initial.debts)
