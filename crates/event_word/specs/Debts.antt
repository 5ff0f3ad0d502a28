-- The seats that actors owe, in one list for all actors.
use Rattle.std.specs.Prelude.{ℕ, ◌<◌, ◌==◌, List, [], ◌∷◌, map, filter}
use Rattle.std.specs.List.{range_with_len}
use Rattle.event_word.specs.declared.world.debts.Debt.{Debt}

-- the debt of this seat by this actor
abbrev pub debt : ℕ → ℕ → Debt
debt actor seat = record { actor = actor; seat = seat }

-- the seats that the actor owes, the next one first
abbrev pub seats_owed : ℕ → List Debt → List ℕ
seats_owed actor debts = map (λ d. d.seat) (filter (λ d. d.actor == actor) debts)

-- for each actor, the seats that it owes
abbrev pub owed_lists : ℕ → List Debt → List (List ℕ)
owed_lists actors debts = map (λ actor. seats_owed actor debts) (range_with_len 0 actors)

-- each debt is an actor's
abbrev pub AreKnown : ℕ → List Debt → Type 0
AreKnown actors [] = Unit {0}
AreKnown actors (d ∷ debts) = (d.actor < actors) × AreKnown actors debts
