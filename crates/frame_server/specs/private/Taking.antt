-- Bytes that are taken from a client into a frame, for the private clauses of the server.
use Rattle.std.specs.Prelude.{◌≡◌, ◌⊎◌, ◌<◌, ◌≤◌, ◌+◌, ◌*◌, ℕ, ℤ, List, [], ◌++◌, length}
use Rattle.std.specs.Prelude.{take, drop, map}
use Rattle.std.specs.Prelude.{Option}
use Rattle.std.specs.Io.KnownBytes.{Consumes, IsAtEnd}
use Rattle.std.specs.Simd.{first_chunks}
use Rattle.expr_reader.specs.Frame.{values_limit}
use Rattle.expr_reader.specs.Limits.{most_bytes}
use Rattle.expr_reader.specs.declared.fault.Fault.{Fault}
use Rattle.expr_reader.specs.declared.fault.Fault.TheVariants.{TooLong, NoMemory}
use Rattle.message_server.specs.History.{History}
use Rattle.message_server.specs.Pieces.{Takes}
use Rattle.message_server.specs.Streams.{HasFailed}
use Rattle.frame_server.specs.Answer.{IsShort}
use Rattle.frame_server.specs.Frame.{Frame, IsWhole, IsUnfinished, frame_in, value_of, frame_len}
use Rattle.frame_server.specs.Frame.{header_len, value_count}
use Rattle.frame_server.specs.declared.frame.Head.{Head}
use Rattle.frame_server.specs.declared.frame.WholeFrame.{WholeFrame}
use Rattle.frame_server.specs.declared.frame.NextFrame.{NextFrame}
use Rattle.frame_server.specs.declared.frame.NextFrame.TheVariants.{Whole, Passed}

-- `count` bytes were taken
pub record TakesCount (count : ℕ) (before after : Option (List ℕ)) (h k : Option History)
    (old new : List ℕ) : Type 0 where
  pub bytes : List ℕ
  pub takes : Takes before after h k old new bytes
  pub counted : length bytes ≡ count

-- the first `count` values that stand in bytes
abbrev pub values_of : ℕ → List ℕ → List ℤ
values_of count bytes = map value_of (first_chunks 8 count bytes)

-- these values were taken
pub record TakesValues (before after : Option (List ℕ)) (h k : Option History)
    (old new : List ℕ) (values : List ℤ) : Type 0 where
  pub bytes : List ℕ
  pub takes : Takes before after h k old new bytes
  pub counted : length bytes ≡ 8 * length values
  pub read : values ≡ values_of (length values) bytes

-- a read failed, as the numbers of failures before and after say, or the client's bytes are at an
-- end
abbrev pub IsCutOff : ℕ → ℕ → Option (List ℕ) → Type 0
IsCutOff before after remaining =
    HasFailed before after ⊎ ((after ≡ before) × IsAtEnd remaining)

-- the head is what the first 16 bytes of a frame say
pub record IsHeadOf (bytes : List ℕ) (head : Head) : Type 0 where
  pub header : head.header_len ≡ header_len bytes
  pub values : head.value_count ≡ value_count bytes

-- the 16 bytes of a frame's head were taken
pub record TakesHead (before after : Option (List ℕ)) (h k : Option History)
    (old new : List ℕ) (head : Head) : Type 0 where
  pub bytes : List ℕ
  pub takes : Takes before after h k old new bytes
  pub counted : length bytes ≡ 16
  pub told : IsHeadOf bytes head

-- a header of this length is too long, or `value_count` values are too many behind it
abbrev pub IsTooLong : List ℕ → ℕ → ℕ → Type 0
IsTooLong header header_len value_count =
    (most_bytes < header_len) ⊎ (values_limit header < value_count)

-- the fault for which `value_count` values aren't kept behind a header
abbrev pub IsRefused : List ℕ → ℕ → Fault → Type 0
IsRefused header value_count fault =
    (fault ≡ NoMemory) ⊎ ((fault ≡ TooLong) × (values_limit header < value_count))

-- the frame that was kept, as its header and values
abbrev pub frame_under : WholeFrame → Frame
frame_under frame = record { header = frame.header.items; values = frame.values.items }

-- the fault for which a frame with this header, of these sizes, isn't kept
abbrev pub IsPassed : List ℕ → ℕ → ℕ → Fault → Type 0
IsPassed header header_len value_count fault =
    ((fault ≡ NoMemory) × IsShort header_len value_count)
    ⊎ ((fault ≡ TooLong) × IsTooLong header header_len value_count)

-- what is kept of a frame, given the bytes behind its head: all of it, or the fault for which it is
-- skipped and the number of its bytes
abbrev pub IsKeptRest : Head → List ℕ → NextFrame → Type 0
IsKeptRest head bytes (Whole frame) =
    (frame_under frame ≡ record {
      header = take head.header_len bytes;
      values = values_of head.value_count (drop head.header_len bytes);
    }) × IsShort head.header_len head.value_count
    × (head.value_count ≤ values_limit frame.header.items)
IsKeptRest head bytes (Passed fault len) =
    IsPassed (take head.header_len bytes) head.header_len head.value_count fault
    × (len ≡ 16 + (head.header_len + 8 * head.value_count))

-- the bytes behind a frame's head were taken, and `next` is what is kept of the frame
pub record TakesRest (before after : Option (List ℕ)) (h k : Option History)
    (old new : List ℕ) (head : Head) (next : NextFrame) : Type 0 where
  pub bytes : List ℕ
  pub takes : Takes before after h k old new bytes
  pub counted : length bytes ≡ head.header_len + 8 * head.value_count
  pub kept : IsKeptRest head bytes next

-- what is kept of a frame, given its bytes: all of it, or the fault for which it is skipped and the
-- number of its bytes
abbrev pub IsKept : List ℕ → NextFrame → Type 0
IsKept bytes (Whole frame) =
    (frame_under frame ≡ frame_in bytes) × IsShort (header_len bytes) (value_count bytes)
    × (value_count bytes ≤ values_limit frame.header.items)
IsKept bytes (Passed fault len) =
    IsPassed (frame_in bytes).header (header_len bytes) (value_count bytes) fault
    × (len ≡ frame_len bytes)

-- a whole frame was taken, and `next` is what is kept of it
pub record TakesFrame (before after : Option (List ℕ)) (h k : Option History)
    (old new : List ℕ) (next : NextFrame) : Type 0 where
  pub bytes : List ℕ
  pub takes : Takes before after h k old new bytes
  pub whole : IsWhole bytes
  pub kept : IsKept bytes next

-- the client's bytes ended, and none is pending
pub record Ends (before after : Option (List ℕ)) (h k : Option History) (old new : List ℕ)
    : Type 0 where
  pub takes : Takes before after h k old new []
  pub nothing : new ≡ []
  pub at_end : IsAtEnd after

-- the reading stopped inside a frame: a read failed, or the client's bytes ended after the frame's
-- first byte
pub record StopsInFrame (before after : Option (List ℕ)) (failed fails : ℕ) (old : List ℕ)
    : Type 0 where
  pub read : List ℕ
  pub consumed : Consumes before after read
  pub unfinished : IsUnfinished (old ++ read)
  pub why : HasFailed failed fails
      ⊎ ((fails ≡ failed) × IsAtEnd after × (0 < length (old ++ read)))

-- at least one and at most `most` pending bytes were moved behind the bytes that are kept
pub record MovesBytes (most : ℕ) (old new kept now : List ℕ) : Type 0 where
  pub count : ℕ
  pub some : 0 < count
  pub within : count ≤ most
  pub kept_too : now ≡ kept ++ take count old
  pub left : new ≡ drop count old
  pub there : count ≤ length old

-- at least one and at most `most` pending values were moved behind the values that are kept
pub record MovesValues (most : ℕ) (old new : List ℕ) (kept now : List ℤ) : Type 0 where
  pub count : ℕ
  pub some : 0 < count
  pub within : count ≤ most
  pub kept_too : now ≡ kept ++ values_of count (take (8 * count) old)
  pub left : new ≡ drop (8 * count) old
  pub there : 8 * count ≤ length old
