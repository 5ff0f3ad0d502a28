-- The frames that answer frames under limits.
use Rattle.std.specs.Prelude.{◌≡◌, ◌⊎◌, ℕ, decimal, codes, List, [], ◌∷◌, ◌++◌, length}
use Rattle.std.specs.Prelude.{Bool, false, if◌then◌else◌, Option, Some, None, Result}
use Rattle.expr_reader.specs.Frame.{request_of_frame}
use Rattle.expr_reader.specs.Request.{Asked}
use Rattle.expr_reader.specs.declared.fault.Fault.{Fault}
use Rattle.expr_reader.specs.declared.fault.Fault.TheVariants.{TooLong, NoMemory}
use Rattle.tensor_runner.specs.Answer.{Answer, fault}
use Rattle.message_server.specs.History.{History}
use Rattle.message_server.specs.Serving.{Framing, BreaksOff, GoesBy}
use Rattle.tensor_runner.specs.Limited.{is_over, no_limits, refusal, MayStop}
use Rattle.tensor_runner.specs.Status.{limit_number, limit_name}
use Rattle.tensor_runner.specs.declared.limits.LimitFault.{LimitFault}
use Rattle.tensor_runner.specs.declared.limits.LimitFault.TheVariants.{TooManySeconds}
use Rattle.tensor_runner.specs.declared.limits.Limits.{Limits}
use Rattle.frame_server.specs.Answer.{answer_of, answer_bytes, IsAnswerTo, IsShort}
use Rattle.frame_server.specs.Frame.{Frame, frame_bytes, frame_in, header_len, value_count}
use Rattle.frame_server.specs.Stream.{AreWholeFrames, AnswersAll, CutsSome}

-- the header of a limit's frame, `error N Name`
abbrev pub limit_text : LimitFault → List ℕ
limit_text f = codes "error " ++ decimal (limit_number f) ++ 32 ∷ limit_name f

-- the bytes of a limit's frame, which has no values
abbrev pub limit_frame : LimitFault → List ℕ
limit_frame f = frame_bytes (record { header = limit_text f; values = [] })

-- the frame of the limit if there is one, and otherwise the given frame
abbrev pub frame_unless : Option LimitFault → List ℕ → List ℕ
frame_unless None bytes = bytes
frame_unless (Some f) bytes = limit_frame f

-- the request of a frame, or its first fault
abbrev pub request_in : Frame → Result Asked Fault
request_in f = request_of_frame f.header f.values

-- whether a frame is longer than the limit of bytes
abbrev pub is_longer : Limits → List ℕ → Bool
is_longer limits bytes = is_over limits.bytes (length bytes)

-- the frame that answers a frame which may be so long: the frame of the limit that its request is
-- over, or the frame of its answer
abbrev pub frame_read : Limits → List ℕ → List ℕ
frame_read limits bytes =
    frame_unless (refusal limits (request_in (frame_in bytes)))
    (answer_bytes (answer_of (frame_in bytes)))

-- the frame that answers a frame under limits; a frame that is longer than the limit of bytes is too
-- long, whatever it asks for
abbrev pub frame_within : Limits → List ℕ → List ℕ
frame_within limits bytes =
    if is_longer limits bytes then answer_bytes (fault TooLong) else frame_read limits bytes

-- the frame says that a frame takes too many seconds, and its evaluation may be stopped
abbrev pub IsStoppedFrame : Limits → List ℕ → List ℕ → Type 0
IsStoppedFrame limits bytes answer =
    (answer ≡ limit_frame TooManySeconds) × MayStop limits (request_in (frame_in bytes))

-- the frame that answers a frame under limits, or the frame of `NoMemory`, or the frame of one that
-- takes too many seconds; a frame that is too long for every version is never answered by these two
abbrev pub IsFrameWithin : Limits → List ℕ → List ℕ → Type 0
IsFrameWithin limits bytes answer =
    (answer ≡ frame_within limits bytes)
    ⊎ (((answer ≡ answer_bytes (fault NoMemory)) × IsShort (header_len bytes) (value_count bytes)
    × (is_longer limits bytes ≡ false))
    ⊎ (IsStoppedFrame limits bytes answer × (is_longer limits bytes ≡ false)))

-- without limits, a frame that answers a frame is the frame of an answer to it
abbrev pub PlainWithoutLimits : Type 0
PlainWithoutLimits =
    (bytes answer : List ℕ) → IsFrameWithin no_limits bytes answer
    → (a : Answer) × IsAnswerTo bytes a × (answer ≡ answer_bytes a)

-- frames as messages that are answered under limits
abbrev pub whole_frames_within : Limits → Framing (List ℕ)
whole_frames_within limits =
    record { AreWhole = AreWholeFrames; IsAnswer = IsFrameWithin limits; bytes_of = λ bytes. bytes }

-- the stream ends after a whole frame, and the sink holds what it held before, followed by the
-- answers to all frames of the stream under limits
abbrev pub AnswersFramesWithin : Limits → List ℕ → List ℕ → Option (List ℕ) → Type 0
AnswersFramesWithin limits stream held contents =
    AnswersAll (whole_frames_within limits) stream held contents

-- the reading stopped: the sink holds what it held before, followed by the answers under limits to
-- the frames that were whole in the bytes that were read
abbrev pub BreaksOffWithin : Limits → List ℕ → List ℕ → Option (List ℕ) → Option (List ℕ)
    → Type 0
BreaksOffWithin limits stream held remaining contents =
    BreaksOff (whole_frames_within limits) stream held remaining contents

-- the writing stopped: the sink holds what it held before, followed by a proper prefix of the
-- answers under limits to some frames with which the stream begins
abbrev pub CutsFramesShortWithin : Limits → List ℕ → List ℕ → Option (List ℕ) → Type 0
CutsFramesShortWithin limits stream held contents =
    CutsSome (whole_frames_within limits) stream held contents

-- a client agrees: if each whole frame is answered under limits and nothing else was written, it is
-- owed nothing
abbrev pub GoesByFramesWithin : Limits → (History → Type 0) → Type 0
GoesByFramesWithin limits owes_nothing = GoesBy (whole_frames_within limits) owes_nothing
