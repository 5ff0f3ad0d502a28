-- The frame of an answer before it is written, for the private clauses of the server.
use Rattle.std.specs.Prelude.{◌≡◌, ◌≢◌, ◌⊎◌, ℕ, ℤ, List, [], ◌++◌, length, Option, Some, None}
use Rattle.std.specs.Prelude.{◌+◌, ◌/◌, Bool, MatchBool, IsSome}
use Rattle.std.specs.Cow.{cow_slice_items}
use Rattle.std.specs.List.{flat_map}
use Rattle.expr_reader.specs.Contents.{Contents}
use Rattle.expr_reader.specs.Request.{Asked, asked_tensor}
use Rattle.expr_reader.specs.declared.fault.Fault.{Fault}
use Rattle.expr_reader.specs.declared.fault.Fault.TheVariants.{TooLong, NoMemory}
use Rattle.tensor_runner.specs.Answer.{tensor, fault}
use Rattle.tensor_runner.specs.Journal.{HasSteps}
use Rattle.tensor_runner.specs.declared.journal.AnyFault.TheVariants.{Request, Limit}
use Rattle.tensor_runner.specs.declared.journal.Entry.{Entry}
use Rattle.tensor_runner.specs.declared.limits.LimitFault.{LimitFault}
use Rattle.tensor_runner.specs.declared.limits.LimitFault.TheVariants.{TooManySeconds}
use Rattle.tensor_runner.specs.declared.limits.Limits.{Limits}
use Rattle.frame_server.specs.Answer.{answer_bytes, IsAnswerTo, IsShort}
use Rattle.frame_server.specs.Frame.{number_bytes, value_bytes, frame_in, header_len, value_count}
use Rattle.frame_server.specs.Limited.{limit_frame, request_in, is_longer, frame_read}
use Rattle.frame_server.specs.Limited.{IsStoppedFrame}
use Rattle.frame_server.specs.NotedFrames.{Says}
use Rattle.frame_server.specs.declared.frame.AnswerFrame.{AnswerFrame}

-- the bytes of a frame before its values: the two sizes and the header
abbrev pub front_bytes : List ℕ → ℕ → List ℕ
front_bytes header value_count =
    number_bytes (length header) ++ (number_bytes value_count ++ header)

-- the values of the tensor, or none
abbrev pub values_in : Option Contents → List ℤ
values_in None = []
values_in (Some t) = t.values

-- the bytes of an answer's frame
abbrev pub bytes_in : AnswerFrame → List ℕ
bytes_in frame = cow_slice_items frame.front ++ flat_map value_bytes (values_in frame.tensor)

-- the most writes of an answer's frame, if each takes all that it is given: one, and one for each
-- 8,192 values that aren't joined to the bytes before them
abbrev pub most_writes : AnswerFrame → ℕ
most_writes frame = 1 + (length (values_in frame.tensor) + 8191) / 8192

-- the journal's note on a frame of `bytes` bytes that this frame answers
abbrev pub entry_of : ℕ → AnswerFrame → Entry
entry_of bytes frame =
    record {
      bytes = bytes;
      answered = length (bytes_in frame);
      fault = frame.fault;
      steps = frame.steps;
    }

-- the frame that answers the frame of these bytes, which may be so long, or the frame of `NoMemory`,
-- or the frame of one that takes too many seconds
abbrev pub IsFrameRead : Limits → List ℕ → List ℕ → Type 0
IsFrameRead limits bytes answer =
    (answer ≡ frame_read limits bytes)
    ⊎ (((answer ≡ answer_bytes (fault NoMemory)) × IsShort (header_len bytes) (value_count bytes))
    ⊎ IsStoppedFrame limits bytes answer)

-- the frame answers the frame of these bytes, which may be so long, and its fault and steps are
-- those of the answer. `logs` says whether a journal notes steps.
pub record IsFrameUnder (limits : Limits) (logs : Bool) (bytes : List ℕ) (frame : AnswerFrame)
    : Type 0 where
  pub within : IsFrameRead limits bytes (bytes_in frame)
  pub says : Says (bytes_in frame) frame.fault
  pub has : HasSteps limits logs (request_in (frame_in bytes)) frame.fault frame.steps

-- the fault answers the frame of these bytes
abbrev pub IsFaultOf : List ℕ → Fault → Type 0
IsFaultOf bytes f = IsAnswerTo bytes (fault f)

-- the frame says this fault
pub record IsFaultFrame (f : Fault) (frame : AnswerFrame) : Type 0 where
  pub bytes : bytes_in frame ≡ answer_bytes (fault f)
  pub fault : frame.fault ≡ Some (Request f)

-- the frame says this fault, or it says `NoMemory` and the fault is not `TooLong`
abbrev pub IsRefusal : Fault → AnswerFrame → Type 0
IsRefusal f frame = IsFaultFrame f frame ⊎ (IsFaultFrame NoMemory frame × (f ≢ TooLong))

-- the frame says this tensor, or it says `NoMemory`
abbrev pub IsTensorFrame : Contents → AnswerFrame → Type 0
IsTensorFrame t frame =
    ((bytes_in frame ≡ answer_bytes (tensor t)) × (frame.fault ≡ None))
    ⊎ IsFaultFrame NoMemory frame

-- the frame says this fault of a limit
abbrev pub IsLimitFrame : LimitFault → AnswerFrame → Type 0
IsLimitFrame f frame = (bytes_in frame ≡ limit_frame f) × (frame.fault ≡ Some (Limit f))

-- the frame of the limit that a request is over; without one, the frame of the tensor that it asks
-- for, or of `NoMemory`, or, where seconds are limited, of `TooManySeconds`
abbrev pub IsOwnFrame : Option LimitFault → Option ℕ → Asked → AnswerFrame → Type 0
IsOwnFrame None seconds a frame =
    IsTensorFrame (asked_tensor a) frame ⊎ (IsLimitFrame TooManySeconds frame × IsSome seconds)
IsOwnFrame (Some f) seconds a frame = IsLimitFrame f frame

-- the frame says that a frame is longer than the limit of bytes, and has no steps
pub record SaysTooLong (frame : AnswerFrame) : Type 0 where
  pub says : IsFaultFrame TooLong frame
  pub none : frame.steps ≡ None

-- the frame answers the frame of these bytes under limits
abbrev pub IsFrameFrom : Limits → Bool → List ℕ → AnswerFrame → Type 0
IsFrameFrom limits logs bytes frame =
    MatchBool (is_longer limits bytes) (SaysTooLong frame) (IsFrameUnder limits logs bytes frame)
