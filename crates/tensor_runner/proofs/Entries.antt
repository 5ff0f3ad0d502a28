-- The entry on a line is of the text and of the line.
use Rattle.std.specs.Prelude.{MatchBool}
use Rattle.std.proofs.Common.{◌≡◌, ℕ, Bool, true, false, if◌then◌else◌, List, Result, Err}
use Rattle.std.proofs.Common.{refl, sym, subst, ◌∙◌, inl}
use Rattle.std.specs.Cow.{cow_slice_items}
use Rattle.expr_reader.specs.Request.{Asked, request_of}
use Rattle.expr_reader.specs.declared.fault.Fault.{Fault}
use Rattle.expr_reader.specs.declared.fault.Fault.TheVariants.{TooLong}
use Rattle.tensor_runner.specs.Journal.{Says, HasSteps, IsEntry}
use Rattle.tensor_runner.specs.Limited.{is_longer}
use Rattle.tensor_runner.specs.Line.{SaysTooLong, IsLineUnder, IsLineFrom, entry_of}
use Rattle.tensor_runner.specs.private.Kept.{IsKept, kept_len}
use Rattle.tensor_runner.specs.declared.answer.Line.{Line}
use Rattle.tensor_runner.specs.declared.journal.AnyFault.TheVariants as any
use Rattle.tensor_runner.specs.declared.journal.Entry.{Entry}
use Rattle.tensor_runner.specs.declared.kept.KeptText.{KeptText}
use Rattle.tensor_runner.specs.declared.limits.Limits.{Limits}
use Rattle.tensor_runner.proofs.Refused.{Says-fault}
use Rattle.tensor_runner.proofs.Streams.{kept-len}

abbrev read_by : List ℕ → Bool → Result Asked Fault
read_by text long = if long then Err TooLong else request_of text

says_by : (limits : Limits) (logs : Bool) (text : List ℕ) (line : Line) (long : Bool)
    → MatchBool long (SaysTooLong line) (IsLineUnder limits logs text line) → Says (cow_slice_items line.bytes) line.fault
says_by limits logs text line true long = Says-fault (any.Request TooLong) line.fault (cow_slice_items line.bytes) long.says.fault long.says.bytes
says_by limits logs text line false short = short.says

has_by : (limits : Limits) (logs : Bool) (text : List ℕ) (line : Line) (long : Bool)
    → MatchBool long (SaysTooLong line) (IsLineUnder limits logs text line) → HasSteps limits logs (read_by text long) line.fault line.steps
has_by limits logs text line true long = inl long.none
has_by limits logs text line false short = short.has

pub IsEntry-from : (limits : Limits) (logs : Bool) (text : List ℕ) (kept : KeptText) (line : Line) (bytes : ℕ) (entry : Entry) → IsKept text kept
    → bytes ≡ kept_len kept → entry ≡ entry_of bytes line → IsLineFrom limits logs text line
    → IsEntry limits logs text (cow_slice_items line.bytes) entry
IsEntry-from limits logs text kept line bytes entry is counted noted from =
    subst (λ (e : Entry). IsEntry limits logs text (cow_slice_items line.bytes) e) (sym noted) (record {
      bytes = counted ∙ kept-len text kept is;
      answered = refl;
      says = says_by limits logs text line (is_longer limits text) from;
      has = has_by limits logs text line (is_longer limits text) from;
    })
