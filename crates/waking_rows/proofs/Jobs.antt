-- Jobs and their tickets.
use Rattle.std.proofs.Common.{◌≡◌, ◌==◌, ℕ, ◌<◌, [], ◌∷◌, arith, ap, eq-eqb}
use Rattle.event_count.specs.Lists.{times, one_if}

-- a list that has the row has it once at least
pub ticket_shows : (row other : ℕ) → row ≡ other → 0 < times other (row ∷ [])
ticket_shows row other same =
    let one : one_if (row == other) ≡ 1 = ap one_if (eq-eqb row other same) in
    omega arith
