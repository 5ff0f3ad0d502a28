-- Lists of possible events, and what they lead to from an opening World.
use Rattle.std.specs.Prelude.{◌≡◌, ℕ, ◌+◌, List, [], ◌∷◌}
use Rattle.event_word.specs.declared.event.Event.{Event}
use Rattle.event_word.specs.World.{World, opening_world}
use Rattle.event_word.specs.Step.{Possible, effect}
use Rattle.event_word.specs.Lawful.{Lawful, HasSizes}

-- each event is possible after the ones before it, and together they lead from the first World to
-- the last
abbrev pub Runs : World → List Event → World → Type 0
Runs first [] last = first ≡ last
Runs first (e ∷ es) last = Possible first e × Runs (effect first e) es last

-- every list of possible events leads from an opening World to a lawful one
abbrev pub RunsAreLawful : Type 0
RunsAreLawful = (workers notifiers rows : ℕ) (history : List Event) (w : World)
    → Runs (opening_world workers notifiers rows) history w
    → Lawful w × HasSizes workers (workers + notifiers) rows w
