-- Where the words of a count's table lie: the stop word, the state word, and the words of waiters
-- and rows. Each has a line of its own, but a waiter's two words share one. The bank lies beside
-- the stop word.
use Rattle.std.specs.Prelude.{ℕ, ◌+◌, ◌-◌, ◌*◌, List, replicate, slice_set}
use Rattle.event_word.specs.Word.{nobody}
use Rattle.event_count.specs.declared.rule.TheConstants.{LINE, STATE}

-- the next word of a seat: what was below it on the stack when it was pushed
abbrev pub next_place : ℕ → ℕ
next_place seat = LINE * (2 + seat)

-- the parker word of a seat, beside its next word: 1 if the seat has a token
abbrev pub parker_place : ℕ → ℕ
parker_place seat = LINE * (2 + seat) + 1

-- the length word of a row, if waiters and rows have this number of lines; row 0 has the last line,
-- and the word has a place in it that no waiter's line uses
abbrev pub row_place : ℕ → ℕ → ℕ
row_place lines row = LINE * (1 + lines - row) + 2

-- the number of words that the stop word, the state word and these lines of waiters and rows need
abbrev pub words_for : ℕ → ℕ
words_for lines = LINE * (2 + lines)

-- the words at the start: nobody waits, and all other words are 0
abbrev pub words_at_first : ℕ → List ℕ
words_at_first lines = slice_set (replicate (words_for lines) 0) STATE nobody
