-- What the steps on the stop word change in a seat's view.
use Rattle.std.specs.Prelude.{◌≡◌, ℕ}
use Rattle.atomic_table.specs.Table.{Me, Step}
use Rattle.worker_pool.specs.declared.queues.job_queue.stop.TheConstants.{STOP}
use Rattle.worker_pool.specs.declared.queues.job_queue.stop_view.StopView.{StopView}

-- a seat's view, and the slots that the seat holds: none
abbrev pub Sat : Type 0
Sat = Me (Unit {0}) StopView

-- the view of a seat that has stored nothing and not looked
abbrev pub unused : StopView
unused = record { stored = 0; found = 0 }

-- the view once the seat has loaded the stop word, and found n
abbrev pub after_look : StopView → ℕ → StopView
after_look view n = record { stored = view.stored; found = n }

-- the view once the seat has stored n
abbrev pub after_store : StopView → ℕ → StopView
after_store view n = record { stored = n; found = view.found }

-- a load of the stop word, which is a look at it
abbrev pub looks : Step (Unit {0}) → Sat → ℕ → Sat → Type 0
looks step before found after =
    (step.word ≡ STOP) × (after ≡ (after_look before.0 found, before.1))

-- a store into the stop word
abbrev pub stores : Step (Unit {0}) → Sat → ℕ → Sat → Type 0
stores step before found after =
    (step.word ≡ STOP) × (after ≡ (after_store before.0 step.first, before.1))
