use Rattle.std.proofs.Common.{◌≡◌, drop, slice_get}
use Rattle.event_word.specs.Debts.{seats_owed}
use Rattle.event_word.proofs.world.debts.nth_owed.Given as goal

-- the seat looked for is still to come
abbrev pub invariant-loop-debt : goal.invariant-loop-debt
invariant-loop-debt l =
    slice_get (seats_owed l.actor (drop l.debt-index l.debts)) l.before ≡ slice_get
    (seats_owed l.actor l.debts) l.place
