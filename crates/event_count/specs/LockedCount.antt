-- A count behind a lock: its World, and what a call does to it.
use Rattle.std.specs.Prelude.{◌≡◌, ℕ, ◌+◌, ◌≤◌, ◌⊎◌, Bool, true, false, List, [], ◌∷◌}
use Rattle.event_word.specs.declared.event.Event.{Event}
use Rattle.event_word.specs.declared.event.Event.TheVariants.{PassFlag, Commit, Unpark, Wake}
use Rattle.event_word.specs.declared.phase.Phase.TheVariants.{Running, Stacked}
use Rattle.event_word.specs.Fields.{fields_of}
use Rattle.event_word.specs.World.{World, phase_of, owed_by}
use Rattle.event_word.specs.Step.{Possible, effect, actor_of}
use Rattle.event_word.specs.Play.{IsStep}
use Rattle.event_word.specs.Lawful.{Lawful, HasSizes}
use Rattle.event_word.specs.Shown.{shown}
use Rattle.event_count.specs.declared.answers.Committed.{Committed}
use Rattle.event_count.specs.declared.answers.Committed.TheVariants as committed
use Rattle.event_count.specs.declared.answers.CommitIn.{CommitIn}
use Rattle.event_count.specs.declared.answers.CommitIn.TheVariants as commit
use Rattle.event_count.specs.declared.rule.Sizes.{Sizes}
use Rattle.event_count.specs.Limits.{most_waiters}

-- what the lock holds whenever it is free: a lawful World of these sizes, without rows
pub record IsCountWorld (k : Sizes) (w : World) : Type 0 where
  pub lawful : Lawful w
  pub sizes : HasSizes k.waiters (k.waiters + k.notifiers) 0 w
  pub few : k.waiters ≤ most_waiters

-- the events happen in turn, up to the first that is not possible; true if all of them happened
abbrev pub TakesSteps : World → List Event → Bool → World → Type 0
TakesSteps w [] all u = (all ≡ true) × (u ≡ w)
TakesSteps w (e ∷ es) all u =
    (Possible w e × TakesSteps (effect w e) es all u) ⊎
    ((Possible w e → ⊥) × (all ≡ false) × (u ≡ w))

-- the World after the actor has unparked these seats, which it owes
abbrev pub unparked : World → ℕ → List ℕ → World
unparked w actor [] = w
unparked w actor (seat ∷ seats) = unparked (effect w (Unpark actor)) actor seats

-- the World after the actor has unparked all seats that it owes
abbrev pub settled : World → ℕ → World
settled w actor = unparked w actor (owed_by w actor)

-- the event happens, and then its actor unparks all seats that it owes; or it is not possible, and
-- nothing happens
abbrev pub Settles : World → Event → World → Type 0
Settles w e u =
    (Possible w e × (u ≡ settled (effect w e) (actor_of e))) ⊎ ((Possible w e → ⊥) × (u ≡ w))

-- the events of a commit: the seat passes the flag, and then commits
abbrev pub commit_of : ℕ → List Event
commit_of seat = PassFlag seat ∷ Commit seat ∷ []

-- how a commit ended: it took a signal, and its seat runs; or it pushed its seat; or one of its
-- events was not possible
abbrev pub IsCommitIn : World → ℕ → CommitIn → World → Type 0
IsCommitIn w seat commit.Impossible u = TakesSteps w (commit_of seat) false u
IsCommitIn w seat commit.Consumed u =
    TakesSteps w (commit_of seat) true u × (phase_of u seat ≡ Running)
IsCommitIn w seat commit.Pushed u =
    TakesSteps w (commit_of seat) true u × (phase_of u seat ≡ Stacked)

-- the seat has just taken its token
abbrev pub HasJustWoken : ℕ → World → Type 0
HasJustWoken seat u = (w : World) × IsStep w (Wake seat) true u

-- A sleep that found the World w behind the lock, and left the World u there. If its commit pushed
-- the seat, the seat is unparked and has taken its token. Otherwise the seat took a signal, or
-- could not commit.
abbrev pub IsSleep : World → ℕ → Committed → World → Type 0
IsSleep w seat committed.Consumed u =
    IsCommitIn w seat commit.Consumed u ⊎ IsCommitIn w seat commit.Impossible u
IsSleep w seat committed.Unparked u =
    (pushed : World) × IsCommitIn w seat commit.Pushed pushed × HasJustWoken seat u
IsSleep w seat committed.Spent u = ⊥

-- what `shut` may return: a word that some lawful World without rows shows at epoch 0
abbrev pub IsLast : ℕ → Type 0
IsLast word = (k : Sizes) × (w : World) × IsCountWorld k w × (fields_of word ≡ shown w 0)
