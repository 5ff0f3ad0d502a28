-- What `step` and `play` do with events.
use Rattle.std.specs.Prelude.{◌≡◌, ℕ, ◌+◌, ◌⊎◌, Bool, true, false, List, [], ◌∷◌, length}
use Rattle.event_word.specs.declared.event.Event.{Event}
use Rattle.event_word.specs.World.{World}
use Rattle.event_word.specs.Step.{Possible, effect}

-- true if the event is possible and has its effect; false if it is not and nothing changes
abbrev pub IsStep : World → Event → Bool → World → Type 0
IsStep w e true u = Possible w e × (u ≡ effect w e)
IsStep w e false u = (Possible w e → ⊥) × (u ≡ w)

-- each event of the list in turn has its effect if it is possible then, and `count` of them are
abbrev pub Plays : World → List Event → ℕ → World → Type 0
Plays w [] count u = (count ≡ 0) × (u ≡ w)
Plays w (e ∷ es) count u =
    (Possible w e × ((fewer : ℕ) × (count ≡ fewer + 1) × Plays (effect w e) es fewer u)) ⊎
    ((Possible w e → ⊥) × Plays w es count u)

-- the numbers of workers, actors and rows stay
pub record SameSizes (old new : World) : Type 0 where
  pub workers : length new.phases ≡ length old.phases
  pub actors : length new.owed ≡ length old.owed
  pub rows : length new.lengths ≡ length old.lengths
