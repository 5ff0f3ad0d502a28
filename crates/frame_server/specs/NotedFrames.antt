-- The answers to frames under limits, and the notes that a journal gets of them.
use Rattle.std.specs.Prelude.{◌≡◌, ℕ, List, [], ◌∷◌, ◌++◌, length, Bool, if◌then◌else◌}
use Rattle.std.specs.Prelude.{Option, Some, None, Result, Err, All}
use Rattle.std.specs.List.{concat}
use Rattle.expr_reader.specs.Contents.{Contents}
use Rattle.expr_reader.specs.Request.{Asked}
use Rattle.expr_reader.specs.declared.fault.Fault.{Fault}
use Rattle.expr_reader.specs.declared.fault.Fault.TheVariants.{TooLong}
use Rattle.message_server.specs.Notes.{noting, Notes, NotesShort, NotesWhole}
use Rattle.message_server.specs.Serving.{Framing}
use Rattle.tensor_runner.specs.Answer.{tensor, fault}
use Rattle.tensor_runner.specs.Journal.{HasSteps}
use Rattle.tensor_runner.specs.declared.journal.AnyFault.{AnyFault}
use Rattle.tensor_runner.specs.declared.journal.AnyFault.TheVariants.{Request, Limit}
use Rattle.tensor_runner.specs.declared.journal.Entry.{Entry}
use Rattle.tensor_runner.specs.declared.limits.Limits.{Limits}
use Rattle.frame_server.specs.Answer.{answer_bytes}
use Rattle.frame_server.specs.Frame.{IsWhole, frame_in}
use Rattle.frame_server.specs.Limited.{limit_frame, is_longer, request_in, whole_frames_within}
use Rattle.frame_server.specs.Stream.{IsParted}

-- the bytes of the frame of a fault
abbrev pub any_frame : AnyFault → List ℕ
any_frame (Request f) = answer_bytes (fault f)
any_frame (Limit f) = limit_frame f

-- the frame says this fault, or a tensor if there is no fault
abbrev pub Says : List ℕ → Option AnyFault → Type 0
Says bytes (Some f) = bytes ≡ any_frame f
Says bytes None = (t : Contents) × (bytes ≡ answer_bytes (tensor t))

-- what was read of a frame under a limit of bytes; nothing of a longer frame is read
abbrev pub read_under : Limits → List ℕ → Result Asked Fault
read_under limits bytes =
    if is_longer limits bytes then Err TooLong else request_in (frame_in bytes)

-- the note on a frame and the frame that answers it. `logs` says whether the journal notes steps.
pub record IsEntry (limits : Limits) (logs : Bool) (frame answer : List ℕ) (entry : Entry)
    : Type 0 where
  pub bytes : entry.bytes ≡ length frame
  pub answered : entry.answered ≡ length answer
  pub says : Says answer entry.fault
  pub has : HasSteps limits logs (read_under limits frame) entry.fault entry.steps

-- frames as messages that are answered under limits, with an entry for each answer. `logs` says
-- whether the journal notes steps.
abbrev pub noted_frames : Limits → Bool → Framing (List ℕ × Entry)
noted_frames limits logs = noting (whole_frames_within limits) (IsEntry limits logs)

module _ (limits : Limits) (logs : Bool) where
  -- the stream ends after a whole frame. All frames of the stream were answered under limits, and
  -- nothing else was written. The journal got the entries on these answers, in order, and no others.
  pub record NotesFrames (stream held : List ℕ) (contents : Option (List ℕ))
      (before after : Option (List Entry)) : Type 0 where
    pub frames : List (List ℕ)
    pub parted : IsParted stream frames []
    pub noted : Notes (noted_frames limits logs) frames held [] contents before after

  -- the reading stopped: the frames that were whole in the bytes that were read were answered and
  -- noted
  abbrev pub NotesWholeFrames : List ℕ → List ℕ → Option (List ℕ) → Option (List ℕ)
      → Option (List Entry) → Option (List Entry) → Type 0
  NotesWholeFrames stream held remaining contents before after =
      NotesWhole (noted_frames limits logs) stream held remaining contents before after

  -- the writing stopped in the answer to a frame of the stream: the frames before it were answered
  -- and noted
  pub record NotesSomeFrames (stream held : List ℕ) (contents : Option (List ℕ))
      (before after : Option (List Entry)) : Type 0 where
    pub frames : List (List ℕ)
    pub next : List ℕ
    pub rest : List ℕ
    pub joined : stream ≡ concat (frames ++ next ∷ []) ++ rest
    pub whole : All IsWhole (frames ++ next ∷ [])
    pub short : NotesShort (noted_frames limits logs) frames next held contents before after
