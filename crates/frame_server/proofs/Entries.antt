-- The entry on a frame is of the frame and of its answer.
use Rattle.std.specs.Prelude.{MatchBool, if◌then◌else◌}
use Rattle.std.proofs.Common.{◌≡◌, ℕ, Bool, true, false, List, Some, Result, Err, length}
use Rattle.std.proofs.Common.{refl, sym, subst, inl}
use Rattle.expr_reader.specs.Request.{Asked}
use Rattle.expr_reader.specs.declared.fault.Fault.{Fault}
use Rattle.expr_reader.specs.declared.fault.Fault.TheVariants.{TooLong}
use Rattle.tensor_runner.specs.Journal.{HasSteps}
use Rattle.tensor_runner.specs.declared.journal.AnyFault.TheVariants as any
use Rattle.tensor_runner.specs.declared.journal.Entry.{Entry}
use Rattle.tensor_runner.specs.declared.limits.Limits.{Limits}
use Rattle.frame_server.specs.Frame.{frame_in}
use Rattle.frame_server.specs.Limited.{is_longer, request_in}
use Rattle.frame_server.specs.NotedFrames.{Says, IsEntry}
use Rattle.frame_server.specs.private.Answering.{bytes_in, entry_of, SaysTooLong, IsFrameUnder, IsFrameFrom}
use Rattle.frame_server.specs.declared.frame.AnswerFrame.{AnswerFrame}
use Rattle.frame_server.proofs.Answering.{Says-of}

abbrev read_by : List ℕ → Bool → Result Asked Fault
read_by bytes long = if long then Err TooLong else request_in (frame_in bytes)

says_by : (limits : Limits) (logs : Bool) (bytes : List ℕ) (frame : AnswerFrame) (is_long : Bool)
    → MatchBool is_long (SaysTooLong frame) (IsFrameUnder limits logs bytes frame) → Says (bytes_in frame) frame.fault
says_by limits logs bytes frame true long = Says-of frame.fault (Some (any.Request TooLong)) (bytes_in frame) long.says.fault long.says.bytes
says_by limits logs bytes frame false short = short.says

has_by : (limits : Limits) (logs : Bool) (bytes : List ℕ) (frame : AnswerFrame) (is_long : Bool)
    → MatchBool is_long (SaysTooLong frame) (IsFrameUnder limits logs bytes frame) → HasSteps limits logs (read_by bytes is_long) frame.fault frame.steps
has_by limits logs bytes frame true long = inl long.none
has_by limits logs bytes frame false short = short.has

pub IsEntry-from : (limits : Limits) (logs : Bool) (bytes : List ℕ) (frame : AnswerFrame) (count : ℕ) (entry : Entry) → count ≡ length bytes
    → entry ≡ entry_of count frame → IsFrameFrom limits logs bytes frame → IsEntry limits logs bytes (bytes_in frame) entry
IsEntry-from limits logs bytes frame count entry counted noted from =
    subst (λ (e : Entry). IsEntry limits logs bytes (bytes_in frame) e) (sym noted) (record {
      bytes = counted;
      answered = refl;
      says = says_by limits logs bytes frame (is_longer limits bytes) from;
      has = has_by limits logs bytes frame (is_longer limits bytes) from;
    })
