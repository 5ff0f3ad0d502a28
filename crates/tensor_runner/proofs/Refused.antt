-- The line that answers a text, where there are limits.
use Rattle.std.specs.Prelude.{MatchBool, IsSome, is_ok}
use Rattle.std.proofs.Common.{◌≡◌, ℕ, ◌<◌, ◌≤◌, Bool, true, false, if◌then◌else◌, List, Option, Some, None, Result, Ok, Err, length, take}
use Rattle.std.proofs.Common.{refl, ap, sym, subst, ◌∙◌, inl, inr}
use Rattle.std.proofs.Math.Decide.{dec_le}
use Rattle.std.proofs.Math.Nat.{lt_of_not-le}
use Rattle.std.specs.Cow.{cow_slice_items}
use Rattle.expr_reader.specs.Contents.{Contents}
use Rattle.expr_reader.specs.Limits.{most_bytes}
use Rattle.expr_reader.specs.Request.{Asked, asked_tensor, request_of}
use Rattle.expr_reader.specs.declared.fault.Fault.{Fault}
use Rattle.expr_reader.specs.declared.request.Request.{Request}
use Rattle.expr_reader.specs.declared.fault.Fault.TheVariants.{TooLong, NoMemory}
use Rattle.tensor_runner.specs.Answer.{tensor, fault, answer_of, answer_from, line_of, tensor_line, fault_line}
use Rattle.tensor_runner.specs.Journal.{any_line, Says, steps_in, HasSteps}
use Rattle.tensor_runner.specs.Limited.{over_limits, steps_if, refusal, line_unless, line_read, limit_line, is_longer, MayStop, IsLineWithin}
use Rattle.tensor_runner.specs.Line.{IsFaultOf, IsFaultLine, IsLineRead, SaysTooLong, IsLineUnder, IsLineFrom}
use Rattle.tensor_runner.specs.declared.answer.Line.{Line}
use Rattle.tensor_runner.specs.declared.journal.AnyFault.{AnyFault}
use Rattle.tensor_runner.specs.declared.journal.AnyFault.TheVariants as any
use Rattle.tensor_runner.specs.declared.limits.LimitFault.{LimitFault}
use Rattle.tensor_runner.specs.declared.limits.LimitFault.TheVariants.{TooManySeconds}
use Rattle.tensor_runner.specs.declared.limits.Limits.{Limits}
use Rattle.tensor_runner.specs.declared.status.Status.TheVariants as status
use Rattle.tensor_runner.proofs.Unlimited.{none_is_no_limit}
use Rattle.tensor_runner.proofs.Lines.{request_of-long, request_of-take, short-take, IsAnswerTo-take}

-- a text that is known by its prefix
within-take : (limits : Limits) (n : ℕ) (text line : List ℕ) → most_bytes < n → IsLineRead limits (take n text) line → IsLineRead limits text line
within-take limits n text line more (inl own) =
    inl (own ∙ ap (λ (r : Result Asked Fault). line_unless (refusal limits r) (line_of (answer_from r))) (request_of-take n text more))
within-take limits n text line more (inr (inl memory)) = inr (inl (memory.0, short-take n text more memory.1))
within-take limits n text line more (inr (inr stopped)) =
    inr (inr (stopped.0, subst (λ (r : Result Asked Fault). MayStop limits r) (request_of-take n text more) stopped.1))

pub IsLineUnder-take : (limits : Limits) (logs : Bool) (n : ℕ) (text : List ℕ) (line : Line) → most_bytes < n → IsLineUnder limits logs (take n text) line → IsLineUnder limits logs text line
IsLineUnder-take limits logs n text line more is = record {
  within = within-take limits n text (cow_slice_items line.bytes) more is.within;
  own = λ none unlimited.
      let own = is.own (ap (refusal limits) (request_of-take n text more) ∙ none) unlimited in
      record {
        answer = own.answer;
        answers = IsAnswerTo-take n text own.answer more own.answers;
        written = own.written;
        status = own.status;
      };
  says = is.says;
  has = subst (λ (r : Result Asked Fault). HasSteps limits logs r line.fault line.steps) (request_of-take n text more) is.has;
}

-- the line of a fault
pub fault_is_no_tensor : (f : Fault) (t : Contents) → fault f ≡ tensor t → ⊥
fault_is_no_tensor f t is = cc

fault-line : (limits : Limits) (r : Result Asked Fault) (f : Fault) → fault f ≡ answer_from r → fault_line f ≡ line_unless (refusal limits r) (line_of (answer_from r))
fault-line limits (Ok a) f is = absurd (fault_is_no_tensor f (asked_tensor a) is)
fault-line limits (Err g) f is = ap line_of is

within-fault : (limits : Limits) (text : List ℕ) (f : Fault) (line : List ℕ) → IsFaultOf text f → line ≡ fault_line f → IsLineRead limits text line
within-fault limits text f line (inl own) is = inl (is ∙ fault-line limits (request_of text) f own)
within-fault limits text f line (inr memory) is = inr (inl (is ∙ ap line_of memory.0, memory.1))

pub Says-fault : (f : AnyFault) (o : Option AnyFault) (bytes : List ℕ) → o ≡ Some f → bytes ≡ any_line f → Says bytes o
Says-fault f o bytes is written = subst (λ (p : Option AnyFault). Says bytes p) (sym is) written

IsLineUnder-told : (limits : Limits) (logs : Bool) (text : List ℕ) (f : Fault) (line : Line) → IsFaultOf text f → IsFaultLine f line
    → line.status ≡ status.Fault → HasSteps limits logs (request_of text) line.fault line.steps → IsLineUnder limits logs text line
IsLineUnder-told limits logs text f line of is status has = record {
  within = within-fault limits text f (cow_slice_items line.bytes) of is.bytes;
  own = λ none unlimited. record { answer = fault f; answers = of; written = is.bytes; status = status };
  says = Says-fault (any.Request f) line.fault (cow_slice_items line.bytes) is.fault is.bytes;
  has = has;
}

-- what is no request has no steps
pub steps-fault : (limits : Limits) (logs : Bool) (r : Result Asked Fault) (f : Fault) → fault f ≡ answer_from r → steps_in limits logs r ≡ None
steps-fault limits logs (Ok a) f is = absurd (fault_is_no_tensor f (asked_tensor a) is)
steps-fault limits logs (Err g) f is = refl

pub memory_of : (f : Fault) → fault f ≡ fault NoMemory → f ≡ NoMemory
memory_of f is = cc

HasSteps-none : (limits : Limits) (logs : Bool) (text : List ℕ) (f : Fault) (o : Option AnyFault) (steps : Option ℕ) → IsFaultOf text f → o ≡ Some (any.Request f) → steps ≡ None
    → HasSteps limits logs (request_of text) o steps
HasSteps-none limits logs text f o steps (inl own) is none = inl (none ∙ sym (steps-fault limits logs (request_of text) f own))
HasSteps-none limits logs text f o steps (inr memory) is none = inr (is ∙ ap (λ (g : Fault). Some (any.Request g)) (memory_of f memory.0), none)

pub IsLineUnder-fault : (limits : Limits) (logs : Bool) (text : List ℕ) (f : Fault) (line : Line) → IsFaultOf text f → IsFaultLine f line
    → line.status ≡ status.Fault → line.steps ≡ None → IsLineUnder limits logs text line
IsLineUnder-fault limits logs text f line of is status none =
    IsLineUnder-told limits logs text f line of is status (HasSteps-none limits logs text f line.fault line.steps of is.fault none)

-- the line of a limit
some_is_no_none : (f : LimitFault) → Some f ≡ None → ⊥
some_is_no_none f is = cc

pub IsLineUnder-limit : (limits : Limits) (logs : Bool) (text : List ℕ) (a : Asked) (over : Option LimitFault) (f : LimitFault) (line : Line)
    → request_of text ≡ Ok a → over ≡ over_limits limits a → over ≡ Some f → cow_slice_items line.bytes ≡ limit_line f
    → line.fault ≡ Some (any.Limit f) → line.steps ≡ steps_if limits logs a → IsLineUnder limits logs text line
IsLineUnder-limit limits logs text a over f line asks found some bytes says steps =
    let is : refusal limits (request_of text) ≡ Some f = ap (refusal limits) asks ∙ sym found ∙ some in
    record {
      within = inl (bytes ∙ sym (ap (λ (o : Option LimitFault). line_unless o (line_of (answer_of text))) is));
      own = λ none unlimited. absurd (some_is_no_none f (sym is ∙ none));
      says = Says-fault (any.Limit f) line.fault (cow_slice_items line.bytes) says bytes;
      has = inl (steps ∙ sym (ap (steps_in limits logs) asks));
    }

-- the line of a request that takes too many seconds
pub IsLineUnder-stopped : (limits : Limits) (logs : Bool) (text : List ℕ) (a : Asked) (over : Option LimitFault) (line : Line)
    → request_of text ≡ Ok a → over ≡ over_limits limits a → over ≡ None → IsSome limits.seconds
    → cow_slice_items line.bytes ≡ limit_line TooManySeconds → line.fault ≡ Some (any.Limit TooManySeconds)
    → line.steps ≡ steps_if limits logs a → IsLineUnder limits logs text line
IsLineUnder-stopped limits logs text a over line asks found nothing limited bytes says steps = record {
  within = inr (inr (bytes, record { limited = limited; asks = ap is_ok asks; allowed = ap (refusal limits) asks ∙ sym found ∙ nothing }));
  own = λ none unlimited. absurd (none_is_no_limit limits.seconds limited unlimited);
  says = Says-fault (any.Limit TooManySeconds) line.fault (cow_slice_items line.bytes) says bytes;
  has = inl (steps ∙ sym (ap (steps_in limits logs) asks));
}

-- the line of a tensor
Says-tensor : (t : Contents) (o : Option AnyFault) (bytes : List ℕ) → o ≡ None → bytes ≡ tensor_line t → Says bytes o
Says-tensor t o bytes is written = subst (λ (p : Option AnyFault). Says bytes p) (sym is) (t, written)

pub IsLineUnder-tensor : (limits : Limits) (logs : Bool) (text : List ℕ) (a : Asked) (over : Option LimitFault) (line : Line)
    → request_of text ≡ Ok a → over ≡ over_limits limits a → over ≡ None → cow_slice_items line.bytes ≡ tensor_line (asked_tensor a)
    → line.status ≡ status.Tensor → line.fault ≡ None → line.steps ≡ steps_if limits logs a → IsLineUnder limits logs text line
IsLineUnder-tensor limits logs text a over line asks found nothing bytes status none steps =
    let is : refusal limits (request_of text) ≡ None = ap (refusal limits) asks ∙ sym found ∙ nothing in
    let own : answer_of text ≡ tensor (asked_tensor a) = ap answer_from asks in
    record {
      within = inl (bytes ∙ sym (ap line_of own) ∙ sym (ap (λ (o : Option LimitFault). line_unless o (line_of (answer_of text))) is));
      own = λ over_none unlimited. record { answer = tensor (asked_tensor a); answers = inl (sym own); written = bytes; status = status };
      says = Says-tensor (asked_tensor a) line.fault (cow_slice_items line.bytes) none bytes;
      has = inl (steps ∙ sym (ap (steps_in limits logs) asks));
    }

-- a text that asks for something isn't too long
asks_no_fault : (a : Asked) (f : Fault) → Ok a ≡ Err f → ⊥
asks_no_fault a f is = cc

short-asked : (text : List ℕ) (a : Asked) → request_of text ≡ Ok a → length text ≤ most_bytes
short-asked text a asks = elim (dec_le (length text) most_bytes) [
  | yes short ↦ short
  | no long ↦ absurd (asks_no_fault a TooLong (sym asks ∙ request_of-long text (lt_of_not-le long)))
]

IsFaultOf-memory : (text : List ℕ) (a : Asked) → request_of text ≡ Ok a → IsFaultOf text NoMemory
IsFaultOf-memory text a asks = inr (refl, short-asked text a asks)

-- the line of `NoMemory` for a request whose tensor found no memory
pub IsLineUnder-memory : (limits : Limits) (logs : Bool) (text : List ℕ) (a : Asked) (line : Line) → request_of text ≡ Ok a → IsFaultLine NoMemory line
    → line.status ≡ status.Fault → line.steps ≡ steps_if limits logs a → IsLineUnder limits logs text line
IsLineUnder-memory limits logs text a line asks is status steps =
    IsLineUnder-told limits logs text NoMemory line (IsFaultOf-memory text a asks) is status (inl (steps ∙ sym (ap (steps_in limits logs) asks)))

-- a text that is longer than the limit of bytes, or isn't
pub IsLineFrom-long : (limits : Limits) (logs : Bool) (text : List ℕ) (line : Line) → is_longer limits text ≡ true → cow_slice_items line.bytes ≡ fault_line TooLong
    → line.fault ≡ Some (any.Request TooLong) → line.steps ≡ None → IsLineFrom limits logs text line
IsLineFrom-long limits logs text line long bytes says none =
    subst (λ (b : Bool). MatchBool b (SaysTooLong line) (IsLineUnder limits logs text line)) (sym long)
    (record { says = record { bytes = bytes; fault = says }; none = none })

pub IsLineFrom-read : (limits : Limits) (logs : Bool) (text : List ℕ) (line : Line) → is_longer limits text ≡ false → IsLineUnder limits logs text line → IsLineFrom limits logs text line
IsLineFrom-read limits logs text line short is = subst (λ (b : Bool). MatchBool b (SaysTooLong line) (IsLineUnder limits logs text line)) (sym short) is

line_by : Limits → List ℕ → Bool → List ℕ
line_by limits text long = if long then fault_line TooLong else line_read limits text

within_by : (limits : Limits) (logs : Bool) (text : List ℕ) (line : Line) (long : Bool) → is_longer limits text ≡ long → MatchBool long (SaysTooLong line) (IsLineUnder limits logs text line)
    → IsLineWithin limits text (cow_slice_items line.bytes)
unfolding line_by
within_by limits logs text line true long is = inl (is.says.bytes ∙ sym (ap (line_by limits text) long))
within_by limits logs text line false short is = elim is.within [
  | inl own ↦ inl (own ∙ sym (ap (line_by limits text) short))
  | inr other ↦ elim other [
    | inl memory ↦ inr (inl (memory.0, memory.1, short))
    | inr stopped ↦ inr (inr (stopped, short))
  ]
]

pub IsLineWithin-from : (limits : Limits) (logs : Bool) (text : List ℕ) (line : Line) → IsLineFrom limits logs text line → IsLineWithin limits text (cow_slice_items line.bytes)
IsLineWithin-from limits logs text line is = within_by limits logs text line (is_longer limits text) refl is
