-- Frames: a header and values, as bytes.
use Rattle.std.specs.Prelude.{◌≡◌, ◌+◌, ◌*◌, ◌<◌, ℕ, ℤ, List, ◌++◌, length, take, drop, map}
use Rattle.std.specs.Int.{w64, to_le_bytes, from_le_bytes, cast_signed, cast_unsigned}
use Rattle.std.specs.List.{flat_map}
use Rattle.std.specs.Simd.{first_chunks}

-- a frame: a header, whose bytes say what the values are for, and the values
pub record Frame : Type 0 where
  pub header : List ℕ
  pub values : List ℤ

-- a number as 8 bytes, the lowest first
unfoldable pub number_bytes : ℕ → List ℕ
number_bytes n = to_le_bytes w64 n

-- the number that 8 bytes are, the lowest first
unfoldable pub number_of : List ℕ → ℕ
number_of bytes = from_le_bytes w64 bytes

-- a value as 8 bytes, in two's complement, the lowest first
abbrev pub value_bytes : ℤ → List ℕ
value_bytes x = number_bytes (cast_unsigned w64 x)

-- the value that 8 bytes are, in two's complement, the lowest first
abbrev pub value_of : List ℕ → ℤ
value_of bytes = cast_signed w64 (number_of bytes)

-- the bytes of a frame: the length of its header, the number of its values, the header, the values
abbrev pub frame_bytes : Frame → List ℕ
frame_bytes f =
    number_bytes (length f.header) ++ (number_bytes (length f.values)
    ++ (f.header ++ flat_map value_bytes f.values))

-- the length of a frame's header, as its first 8 bytes say
abbrev pub header_len : List ℕ → ℕ
header_len bytes = number_of (take 8 bytes)

-- the number of a frame's values, as its next 8 bytes say
abbrev pub value_count : List ℕ → ℕ
value_count bytes = number_of (take 8 (drop 8 bytes))

-- how many bytes a frame has, as its first 16 bytes say
abbrev pub frame_len : List ℕ → ℕ
frame_len bytes = 16 + header_len bytes + 8 * value_count bytes

-- the bytes are a whole frame
abbrev pub IsWhole : List ℕ → Type 0
IsWhole bytes = length bytes ≡ frame_len bytes

-- the bytes are a proper prefix of a frame, or no bytes
abbrev pub IsUnfinished : List ℕ → Type 0
IsUnfinished bytes = length bytes < frame_len bytes

-- the frame that these bytes are
abbrev pub frame_in : List ℕ → Frame
frame_in bytes =
    record {
      header = take (header_len bytes) (drop 16 bytes);
      values = map value_of
          (first_chunks 8 (value_count bytes) (drop (16 + header_len bytes) bytes));
    }
