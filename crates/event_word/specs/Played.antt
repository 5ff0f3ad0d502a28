-- The possible events of a list that is played on a World are a run.
use Rattle.std.specs.Prelude.{◌≡◌, ℕ, ◌+◌, ◌⊎◌, List, [], ◌∷◌, length}
use Rattle.event_word.specs.declared.event.Event.{Event}
use Rattle.event_word.specs.World.{World, opening_world}
use Rattle.event_word.specs.Lawful.{Lawful, HasSizes}
use Rattle.event_word.specs.Play.{Plays}
use Rattle.event_word.specs.Runs.{Runs}

-- the first list is the second list with some events left out
abbrev pub IsPart : List Event → List Event → Type 0
IsPart part [] = part ≡ []
IsPart part (e ∷ es) =
    IsPart part es ⊎ ((rest : List Event) × (part ≡ e ∷ rest) × IsPart rest es)

-- the history is `taken` of the events, in order; each is possible after the ones before it, and
-- together they lead from the first World to the last
pub record IsHistory (first : World) (events : List Event) (taken : ℕ) (last : World)
    (history : List Event) : Type 0 where
  pub part : IsPart history events
  pub count : length history ≡ taken
  pub runs : Runs first history last

-- whatever is played has such a history, and leads from an opening World to a lawful one
pub record PlaysAreRuns : Type 0 where
  pub history : (first : World) (events : List Event) (taken : ℕ) (last : World)
      → Plays first events taken last
      → (history : List Event) × IsHistory first events taken last history
  pub lawful : (workers notifiers rows : ℕ) (events : List Event) (taken : ℕ) (last : World)
      → Plays (opening_world workers notifiers rows) events taken last
      → Lawful last × HasSizes workers (workers + notifiers) rows last
