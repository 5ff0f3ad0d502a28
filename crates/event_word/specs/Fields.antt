-- The fields of an event word.
use Rattle.std.specs.Prelude.{ℕ, ◌+◌, ◌*◌, ◌/◌, ◌%◌, ◌^◌, ◌<◌}
use Rattle.event_word.specs.declared.word.Fields.{Fields}

-- the fields with these values
abbrev pub fields : ℕ → ℕ → ℕ → ℕ → Fields
fields top pre signals epoch =
    record { top = top; pre = pre; signals = signals; epoch = epoch }

-- the fields of a word: 14 bits each for top, pre-waiters and signals, then 22 for the epoch
abbrev pub fields_of : ℕ → Fields
fields_of word =
    fields (word % 2 ^ 14) (word / 2 ^ 14 % 2 ^ 14) (word / 2 ^ 28 % 2 ^ 14)
    (word / 2 ^ 42 % 2 ^ 22)

-- the word that packs the fields
abbrev pub word_of : Fields → ℕ
word_of f = f.top + 2 ^ 14 * f.pre + 2 ^ 28 * f.signals + 2 ^ 42 * f.epoch

-- each field fits its bits
pub record InRange (f : Fields) : Type 0 where
  pub top : f.top < 2 ^ 14
  pub pre : f.pre < 2 ^ 14
  pub signals : f.signals < 2 ^ 14
  pub epoch : f.epoch < 2 ^ 22
