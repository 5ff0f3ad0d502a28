-- The phases of an element, and what the table has for each.
use Rattle.std.specs.Prelude.{ℕ, Option, Some, None, option_to_list}
use mathlib.Core.Option.{some, none}
use mathlib.Core.Option as maybe
use Rattle.run_queue.specs.Bag.{total}

-- the word of an element with no job
abbrev pub empty_word : ℕ
empty_word = 0

-- the word of an element on which a seat works
abbrev pub busy_word : ℕ
busy_word = 1

-- the word of an element with a job
abbrev pub ready_word : ℕ
ready_word = 2

-- the phase of an element: it has no job, or a seat works on it, or it has this job
pub data Phase (J : Type 0) : Type 0 where
  empty : Phase J
  busy : Phase J
  ready : J → Phase J

module _ {J : Type 0} where
  -- the word of an element in the phase
  abbrev pub word_of : Phase J → ℕ
  word_of empty = empty_word
  word_of busy = busy_word
  word_of (ready job) = ready_word

  -- what is at home in the element's slot: nothing while a seat works on it, since that seat has
  -- the slot
  abbrev pub home_of : Phase J → maybe.Option (Option J)
  home_of empty = some None
  home_of busy = none
  home_of (ready job) = some (Some job)

  -- how many views name an element in the phase
  abbrev pub namers_of : Phase J → ℕ
  namers_of empty = 0
  namers_of busy = 1
  namers_of (ready job) = 0

  -- the weight of a slot's job, or 0 without one
  abbrev pub weight : (J → ℕ) → Option J → ℕ
  weight h slot = total h (option_to_list slot)

  -- the weight of the job at home in a slot, which is ready; or 0 without one
  abbrev pub weight_at_home : (J → ℕ) → maybe.Option (Option J) → ℕ
  weight_at_home h none = 0
  weight_at_home h (some slot) = weight h slot
