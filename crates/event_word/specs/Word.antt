-- What the steps of an event count do to the fields of its word.
use Rattle.std.specs.Prelude.{◌≡◌, ◌≢◌, ℕ, ◌+◌, ◌-◌, ◌<◌, ◌==◌, if◌then◌else◌}
use Rattle.event_word.specs.declared.word.Fields.{Fields}
use Rattle.event_word.specs.declared.after.AfterCommit.{AfterCommit}
use Rattle.event_word.specs.declared.after.AfterCommit.TheVariants.{Consumed, Pushed}
use Rattle.event_word.specs.declared.after.AfterNotify.{AfterNotify}
use Rattle.event_word.specs.declared.after.AfterNotify.TheVariants.{Nothing, Signalled, Pop}
use Rattle.event_word.specs.declared.after.AfterNotifyAll.{AfterNotifyAll}
use Rattle.event_word.specs.declared.after.AfterNotifyAll.TheVariants as all
use Rattle.event_word.specs.Fields.{fields, fields_of}

-- the value that stands for the top of an empty stack
abbrev pub nobody : ℕ
nobody = 16383

-- one pre-waiter more
abbrev pub prewaited : Fields → Fields
prewaited f = fields f.top (f.pre + 1) f.signals f.epoch

-- one pre-waiter fewer, and one signal fewer if each pre-waiter had one
abbrev pub cancelled : Fields → Fields
cancelled f =
    fields f.top (f.pre - 1) (if f.signals == f.pre then f.signals - 1 else f.signals) f.epoch

-- one pre-waiter and its signal fewer
abbrev pub consumed : Fields → Fields
consumed f = fields f.top (f.pre - 1) (f.signals - 1) f.epoch

-- one pre-waiter fewer, and the seat on top with the epoch of its push
abbrev pub pushed : Fields → ℕ → ℕ → Fields
pushed f seat epoch = fields seat (f.pre - 1) f.signals epoch

-- what the seat on top keeps of the stack below it
abbrev pub below : Fields → Fields
below f = fields f.top 0 0 f.epoch

-- one signal more
abbrev pub signalled : Fields → Fields
signalled f = fields f.top f.pre (f.signals + 1) f.epoch

-- the word after a pop: its top and epoch are those that the popped seat kept in its next word
abbrev pub popped : Fields → Fields → Fields
popped f next = fields next.top f.pre f.signals next.epoch

-- each pre-waiter has a signal, and the stack is empty
abbrev pub all_notified : Fields → Fields
all_notified f = fields nobody f.pre f.pre 0

-- nobody has to be notified: the stack is empty, and each pre-waiter has a signal
pub record IsSettled (f : Fields) : Type 0 where
  pub empty : f.top ≡ nobody
  pub answered : f.signals ≡ f.pre

-- a commit of the seat at the epoch takes a signal if there is one, and otherwise pushes the seat
abbrev pub IsCommit : Fields → ℕ → ℕ → AfterCommit → Type 0
IsCommit f seat epoch (Consumed word) = (0 < f.signals) × (fields_of word ≡ consumed f)
IsCommit f seat epoch (Pushed word next) =
    (f.signals ≡ 0) × (fields_of word ≡ pushed f seat epoch) × (fields_of next ≡ below f)

-- a notification gives a signal if a pre-waiter has none, and otherwise pops the top
abbrev pub IsNotify : Fields → AfterNotify → Type 0
IsNotify f Nothing = IsSettled f
IsNotify f (Signalled word) = (f.signals < f.pre) × (fields_of word ≡ signalled f)
IsNotify f (Pop seat) = (f.signals ≡ f.pre) × (f.top ≢ nobody) × (seat ≡ f.top)

-- a notification of all gives each pre-waiter a signal, and empties the stack
abbrev pub IsNotifyAll : Fields → AfterNotifyAll → Type 0
IsNotifyAll f all.Nothing = IsSettled f
IsNotifyAll f (all.Taken word top) =
    (IsSettled f → ⊥) × (fields_of word ≡ all_notified f) × (top ≡ f.top)
