-- 64-bit numbers as halves of 32 bits. A product modulo 2^64 is the product of the low halves, plus
-- 2^32 times the two products of a low half and a high half.
use Rattle.std.specs.Prelude.{◌≡◌, ℕ, ℤ, pos, ◌+ℤ◌, ◌+◌, ◌*◌, ◌/◌, ◌%◌, ◌<◌, ◌^◌, List, length}
use Rattle.std.specs.Prelude.{slice_index_or}
use Rattle.std.specs.Int.{w64, cast_unsigned}
use Rattle.tensor_values.specs.Values.{value_in}
use Rattle.tensor_shape.specs.Wrap.{wrap}

abbrev pub low_half : ℤ → ℕ
low_half z = cast_unsigned w64 z % 2 ^ 32

abbrev pub high_half : ℤ → ℕ
high_half z = cast_unsigned w64 z / 2 ^ 32

-- the word at place p of a list
abbrev pub word_in : List ℕ → ℕ → ℕ
word_in words p = slice_index_or words p 0

-- a list of eight words, each of 32 bits
abbrev pub AreWords : List ℕ → Type 0
AreWords words = (length words ≡ 8) × ((k : ℕ) → k < 8 → word_in words k < 2 ^ 32)

-- the number that lane r and the two words of its crossed products stand for
abbrev pub joined : List ℤ → List ℕ → ℕ → ℤ
joined low crossed r =
    wrap (value_in low r +ℤ pos (2 ^ 32 * (word_in crossed (2 * r) + word_in crossed (2 * r + 1))))
