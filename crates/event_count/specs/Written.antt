-- What the words of a count's table say about the World.
use Rattle.std.specs.Prelude.{◌≡◌, ◌↔◌, ℕ, ◌+◌, ◌<◌, List, [], ◌∷◌, length, slice_index}
use Rattle.event_word.specs.declared.word.Fields.{Fields}
use Rattle.event_word.specs.Fields.{fields_of}
use Rattle.event_word.specs.Word.{nobody}
use Rattle.event_word.specs.Lists.{one_if}
use Rattle.event_word.specs.World.{World, has_token, length_of}
use Rattle.event_count.specs.declared.rule.TheConstants.{STOP, STATE}
use Rattle.event_count.specs.declared.rule.RowSizes.{RowSizes}
use Rattle.event_count.specs.Places.{next_place, parker_place, row_place, words_for}

-- the fields of the state word
abbrev pub shown_fields : List ℕ → Fields
shown_fields words = fields_of (slice_index words STATE)

-- the fields of a seat's next word
abbrev pub next_fields : List ℕ → ℕ → Fields
next_fields words seat = fields_of (slice_index words (next_place seat))

-- From these fields on, the top and epoch of each next word lead down the stack to its end, which
-- has nobody at epoch 0. The epoch of a seat on the stack is the epoch of its last push, one before
-- its next.
abbrev pub Leads : List ℕ → (ℕ → ℕ) → List ℕ → Fields → Type 0
Leads words epochs [] f = (f.top ≡ nobody) × (f.epoch ≡ 0)
Leads words epochs (seat ∷ rest) f =
    (f.top ≡ seat) × (f.epoch + 1 ≡ epochs seat)
    × Leads words epochs rest (next_fields words seat)

-- what the words of the table say about the World, if each waiter's next push has this epoch
pub record Written (k : RowSizes) (words : List ℕ) (w : World) (epochs : ℕ → ℕ) : Type 0 where
  pub room : length words ≡ words_for (k.waiters + k.rows)
  pub pre : (shown_fields words).pre ≡ length w.pre
  pub signals : (shown_fields words).signals ≡ w.signals
  pub stack : Leads words epochs w.stack (shown_fields words)
  pub tokens : (seat : ℕ) → seat < k.waiters
      → slice_index words (parker_place seat) ≡ one_if (has_token w seat)
  pub stop : (slice_index words STOP ≡ 0) ↔ (w.stop ≡ 0)
  pub rows : (row : ℕ) → row < k.rows
      → slice_index words (row_place (k.waiters + k.rows) row) ≡ length_of w row
