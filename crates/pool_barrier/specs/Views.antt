-- The views of the seats at a barrier's table, and how each step changes them.
use Rattle.std.specs.Prelude.{◌≡◌, ℕ, ◌+◌, ◌-◌, ◌<◌, ◌^◌, nat_lt, if◌then◌else◌}
use Rattle.atomic_table.specs.Table.{Me, Step}
use Rattle.pool_barrier.specs.declared.rule.TheConstants.{STATE}
use Rattle.pool_barrier.specs.declared.view.Phase.{Phase}
use Rattle.pool_barrier.specs.declared.view.Phase.TheVariants.{Fresh, Flagged, Done}
use Rattle.pool_barrier.specs.declared.view.View.{View}
use Rattle.pool_barrier.specs.declared.view.View.TheVariants.{Whole, Gives, Waits}

-- the number of notices that a seat has left to give
abbrev pub notices_in : View → ℕ
notices_in (Whole count) = count
notices_in (Gives notices given found) = notices
notices_in (Waits phase) = 0

-- the number of notices that a seat has given
abbrev pub given_in : View → ℕ
given_in (Whole count) = 0
given_in (Gives notices given found) = given
given_in (Waits phase) = 0

-- the word that the seat's last notice found, or 0
abbrev pub found_in : View → ℕ
found_in (Whole count) = 0
found_in (Gives notices given found) = found
found_in (Waits phase) = 0

-- 1 for the seat that may wait, else 0
abbrev pub waiter_in : View → ℕ
waiter_in (Whole count) = 1
waiter_in (Gives notices given found) = 0
waiter_in (Waits phase) = 1

-- how far the waiter has come
abbrev pub phase_in : View → Phase
phase_in (Whole count) = Fresh
phase_in (Gives notices given found) = Fresh
phase_in (Waits phase) = phase

-- 1 if the waiter has set its flag in this phase, else 0
abbrev pub flag_of : Phase → ℕ
flag_of Fresh = 0
flag_of Flagged = 1
flag_of Done = 1

-- 1 for the waiter if it has set its flag, else 0
abbrev pub flag_in : View → ℕ
flag_in (Whole count) = 0
flag_in (Gives notices given found) = 0
flag_in (Waits phase) = flag_of phase

-- the first seat's view after it became the waiter
abbrev pub waiter_of_whole : View → View
waiter_of_whole whole = Waits Fresh

-- the first share's view: it has all notices
abbrev pub share_of_whole : View → View
share_of_whole whole = Gives (notices_in whole) 0 0

-- the share after k of its notices moved to another share
abbrev pub after_split : ℕ → View → View
after_split k share = Gives (notices_in share - k) (given_in share) (found_in share)

-- the new share, to which the k notices moved
abbrev pub split_off : ℕ → View → View
split_off k share = Gives k 0 0

-- the share after it gave one notice and found this word
abbrev pub after_notice : View → ℕ → View
after_notice share found = Gives (notices_in share - 1) (given_in share + 1) found

-- the waiter after it set its flag and found this word
abbrev pub after_flag : ℕ → View
after_flag found = Waits (if nat_lt found 2 then Done else Flagged)

-- a seat's view, and the slots that the seat has: none
abbrev pub Sat : Type 0
Sat = Me (Unit {0}) View

-- what a step tells: its operands, the seat before it, the number that it found, the seat after it
abbrev pub Told : Type 1
Told = Step (Unit {0}) → Sat → ℕ → Sat → Type 0

-- what the step of a notice tells: it is on the barrier's word
abbrev pub gives_one : Told
gives_one step before found after =
    (step.word ≡ STATE) × (after ≡ (after_notice before.0 found, before.1))

-- what the step that sets the flag tells: it is on the barrier's word
abbrev pub sets_flag : Told
sets_flag step before found after =
    (step.word ≡ STATE) × (after ≡ (after_flag found, before.1)) × (found < 2 ^ 32)
