-- Frames of answers, and how they are written.
use Rattle.std.proofs.Common.{◌≡◌, ◌≢◌, ◌⊎◌, ◌<◌, ◌≤◌, ◌+◌, ◌-◌, ◌/◌, ℕ, ℤ, Bool, true, false, ◌*◌, List, [], ◌∷◌, ◌++◌, length, map, take, drop, get_or, set, Option, Some, None, Result, Ok, Err, OnErr}
use Rattle.std.proofs.Common.{option_map, refl, ap, sym, ◌∙◌, subst, append_assoc, arith, length-append, inl, inr}
use Rattle.std.specs.Prelude.{nat_lt, if◌then◌else◌, MatchBool, IsSome, is_ok}
use Rattle.std.specs.Cow.{cow_slice_items}
use Rattle.std.specs.List.{flat_map}
use Rattle.std.proofs.Math.Seq.{take-add, take-append-add}
use Rattle.std.proofs.Math.Decide.{dec_le}
use Rattle.std.proofs.Math.Nat.{lt_of_not-le}
use Rattle.std.proofs.lemmas.Bool.{lt-ltb}
use Rattle.std.proofs.lemmas.Nat.{le-div}
use Rattle.std.proofs.lemmas.List.{append-nil, take_more_set, take_more, map-append, take-append-drop, take-append-le, length-drop, length-take-le}
use Rattle.std.proofs.lemmas.List.Concat.{flat_map-append}
use Rattle.std.specs.Io.KnownBytes.{Appends}
use Rattle.expr_reader.specs.Asked.{asked_under}
use Rattle.expr_reader.specs.Frame.{frame_inputs, request_of_frame, values_limit}
use Rattle.expr_reader.specs.Place.{here, unlocated}
use Rattle.expr_reader.specs.Profile.{frame_profile_of}
use Rattle.expr_reader.specs.Request.{Asked, asked_tensor, text_asked}
use Rattle.expr_reader.specs.declared.request.Request.{Request}
use Rattle.expr_reader.specs.Limits.{most_bytes, widest_values}
use Rattle.expr_reader.specs.declared.fault.Fault.{Fault}
use Rattle.expr_reader.specs.declared.fault.Fault.TheVariants.{TooLong, NoMemory}
use Rattle.tensor_runner.specs.Answer.{tensor, fault, answer_from}
use Rattle.tensor_runner.specs.Journal.{steps_in, HasSteps}
use Rattle.tensor_runner.specs.Limited.{over_limits, steps_if, refusal}
use Rattle.tensor_runner.specs.declared.journal.AnyFault.{AnyFault}
use Rattle.tensor_runner.specs.declared.journal.AnyFault.TheVariants as any
use Rattle.tensor_runner.specs.declared.limits.LimitFault.{LimitFault}
use Rattle.tensor_runner.specs.declared.limits.LimitFault.TheVariants.{TooManySeconds}
use Rattle.tensor_runner.specs.declared.limits.Limits.{Limits}
use Rattle.message_server.specs.History.{History, writing, AddsAtMost}
use Rattle.message_server.specs.Pieces.{AppendsFront}
use Rattle.message_server.proofs.Streams.{Appends-trans}
use Rattle.frame_server.specs.Answer.{answer_of, answer_bytes, IsAnswerTo, IsShort}
use Rattle.frame_server.specs.private.Answering.{front_bytes, bytes_in, values_in, IsFrameRead, IsFrameUnder, IsFrameFrom, SaysTooLong, IsFaultOf, IsFaultFrame, IsTensorFrame, IsLimitFrame, IsOwnFrame}
use Rattle.frame_server.specs.Frame.{Frame, frame_bytes, frame_in, header_len, value_count, number_bytes, value_bytes, IsWhole}
use Rattle.frame_server.specs.Limited.{frame_unless, frame_read, limit_frame, request_in, is_longer, IsFrameWithin}
use Rattle.frame_server.specs.NotedFrames.{Says}
use Rattle.frame_server.specs.private.Taking.{IsTooLong, IsPassed, frame_under}
use Rattle.frame_server.specs.declared.frame.AnswerFrame.{AnswerFrame}
use Rattle.frame_server.specs.declared.frame.WholeFrame.{WholeFrame}
use Rattle.tensor_runner.proofs.Lines.{fault_of}
use Rattle.tensor_runner.proofs.Refused.{fault_is_no_tensor, steps-fault, memory_of}
use Rattle.frame_server.proofs.Frames.{length-values_of}
use Rattle.frame_server.proofs.Limit.{limit-between}
use Rattle.frame_server.proofs.Written.{length-values}

-- the values behind the sizes and the header
pub front-behind : (header : List ℕ) (values : List ℤ)
    → front_bytes header (length values) ++ flat_map value_bytes values ≡ frame_bytes (record { header = header; values = values })
front-behind header values =
    append_assoc (number_bytes (length header)) (number_bytes (length values) ++ header) (flat_map value_bytes values)
    ∙ ap (λ (l : List ℕ). number_bytes (length header) ++ l) (append_assoc (number_bytes (length values)) header (flat_map value_bytes values))

-- one cell more
pub cells-push : (cells : List (List ℕ)) (values : List ℤ) (k : ℕ) (x : List ℕ) (d : ℤ) → k < length cells → k < length values → x ≡ value_bytes (get_or values k d)
    → take k cells ≡ map value_bytes (take k values) → take (k + 1) (set cells k x) ≡ map value_bytes (take (k + 1) values)
cells-push cells values k x d within some is before =
    take_more_set cells k x within
    ∙ ap (λ (l : List (List ℕ)). l ++ x ∷ []) before
    ∙ ap (λ (y : List ℕ). map value_bytes (take k values) ++ y ∷ []) is
    ∙ sym (map-append value_bytes (take k values) (get_or values k d ∷ []))
    ∙ ap (λ (l : List ℤ). map value_bytes l) (sym (take_more values k d some))

-- a prefix of what stands behind something is, with it, a prefix of the whole
pub AppendsFront-behind : (a b c : Option (List ℕ)) (xs ys more all : List ℕ) → Appends a b xs → AppendsFront b c ys → all ≡ xs ++ (ys ++ more) → AppendsFront a c all
AppendsFront-behind a b c xs ys more all first front is =
    let within : front.0 < length ys = front.1 in
    let taken : take (length xs + front.0) all ≡ xs ++ take front.0 ys =
    ap (λ (l : List ℕ). take (length xs + front.0) l) is
    ∙ take-append-add xs (ys ++ more) front.0
    ∙ ap (λ (l : List ℕ). xs ++ l) (take-append-le front.0 ys more (omega (arith, within))) in (
      length xs + front.0,
      omega (arith, within, ap length is, length-append xs (ys ++ more), length-append ys more),
      subst (λ (l : List ℕ). Appends a c l) (sym taken) (Appends-trans a b c xs (take front.0 ys) first front.2),
    )

pub AppendsFront-more : (a b : Option (List ℕ)) (ys more : List ℕ) → AppendsFront a b ys → AppendsFront a b (ys ++ more)
AppendsFront-more a b ys more front =
    let within : front.0 < length ys = front.1 in (
      front.0,
      omega (arith, within, length-append ys more),
      subst (λ (l : List ℕ). Appends a b l) (sym (take-append-le front.0 ys more (omega (arith, within)))) front.2,
    )

pub OnErr-follows : {A E : Type 0} (r : Result A E) (X Y : Type 0) → (X → Y) → OnErr r X → OnErr r Y
OnErr-follows (Ok x) X Y follows holds = tt
OnErr-follows (Err e) X Y follows holds = follows holds

-- no write
pub writing-none : (h : Option History) → h ≡ option_map (writing []) h
writing-none None = refl
writing-none (Some h) = ap (λ (t : List ℕ). Some (record { taken = h.taken; written = t })) (sym (append-nil h.written))

-- some writes and then others
pub AddsAtMost-then : (m n : ℕ) (a b c : Option ℕ) → AddsAtMost m a b → AddsAtMost n b c → AddsAtMost (m + n) a c
AddsAtMost-then m n None None c first next = next
AddsAtMost-then m n None (Some x) c first next = absurd first
AddsAtMost-then m n (Some w) None c first next = absurd first
AddsAtMost-then m n (Some w) (Some x) None first next = absurd next
AddsAtMost-then m n (Some w) (Some x) (Some y) first next =
    let one : x ≤ w + m = first in
    let two : y ≤ x + n = next in
    omega (arith, one, two)

-- as many writes as there are batches of values
pub AddsAtMost-fits : (writes count : ℕ) (a b : Option ℕ) → AddsAtMost writes a b → 8192 * writes < count + 8192 → AddsAtMost ((count + 8191) / 8192) a b
AddsAtMost-fits writes count None None adds fits = tt
AddsAtMost-fits writes count None (Some x) adds fits = absurd adds
AddsAtMost-fits writes count (Some w) None adds fits = absurd adds
AddsAtMost-fits writes count (Some w) (Some x) adds fits =
    let one : x ≤ w + writes = adds in
    let few : writes ≤ (count + 8191) / 8192 = le-div writes (count + 8191) 8192 (omega arith) (omega (arith, fits)) in
    omega (arith, one, few)

-- one value more
pub values-push : (values : List ℤ) (k : ℕ) (d : ℤ) → k < length values
    → flat_map value_bytes (take (k + 1) values) ≡ flat_map value_bytes (take k values) ++ value_bytes (get_or values k d)
values-push values k d some =
    ap (λ (l : List ℤ). flat_map value_bytes l) (take_more values k d some)
    ∙ flat_map-append value_bytes (take k values) (get_or values k d ∷ [])
    ∙ ap (λ (l : List ℕ). flat_map value_bytes (take k values) ++ l) (append-nil (value_bytes (get_or values k d)))

-- values in three parts
pub values-parted : (values : List ℤ) (first count : ℕ)
    → flat_map value_bytes values
    ≡ flat_map value_bytes (take first values) ++ (flat_map value_bytes (take count (drop first values)) ++ flat_map value_bytes (drop count (drop first values)))
values-parted values first count =
    ap (λ (l : List ℤ). flat_map value_bytes l) (sym (take-append-drop first values))
    ∙ flat_map-append value_bytes (take first values) (drop first values)
    ∙ ap (λ (l : List ℕ). flat_map value_bytes (take first values) ++ l)
    (ap (λ (l : List ℤ). flat_map value_bytes l) (sym (take-append-drop count (drop first values)))
    ∙ flat_map-append value_bytes (take count (drop first values)) (drop count (drop first values)))

-- more of them
pub values-more : (values : List ℤ) (first count : ℕ)
    → flat_map value_bytes (take first values) ++ flat_map value_bytes (take ((count + first) - first) (drop first values)) ≡ flat_map value_bytes (take (count + first) values)
values-more values first count =
    let some : (count + first) - first ≡ count = omega arith in
    let sum : first + count ≡ count + first = omega arith in
    ap (λ (n : ℕ). flat_map value_bytes (take first values) ++ flat_map value_bytes (take n (drop first values))) some
    ∙ sym (flat_map-append value_bytes (take first values) (take count (drop first values)))
    ∙ ap (λ (l : List ℤ). flat_map value_bytes l) (sym (take-add first count values) ∙ ap (λ (n : ℕ). take n values) sum)

-- a frame that is too long
request-long : (header : List ℕ) (values : List ℤ) → (most_bytes < length header) ⊎ (values_limit header < length values)
    → answer_of (record { header = header; values = values }) ≡ fault TooLong
request-long header values (inr many) = rw (lt-ltb (values_limit header) (length values) many) refl
request-long header values (inl long) = by_count (nat_lt (values_limit header) (length values))
  where
    by_count : (are_many : Bool) → answer_from (unlocated (if are_many then Err (here TooLong) else text_asked frame_profile_of (frame_inputs values) header)) ≡ fault TooLong
    by_count true = refl
    by_count false = rw (lt-ltb most_bytes (length header) long) refl

pub length-header : (bytes : List ℕ) → IsWhole bytes → length (take (header_len bytes) (drop 16 bytes)) ≡ header_len bytes
length-header bytes whole = length-take-le (header_len bytes) (drop 16 bytes) (omega (arith, whole, length-drop 16 bytes))

too_long : (bytes : List ℕ) → IsWhole bytes → IsTooLong (frame_in bytes).header (header_len bytes) (value_count bytes) → answer_of (frame_in bytes) ≡ fault TooLong
too_long bytes whole (inl long) =
    request-long _ _ (inl (subst (λ (n : ℕ). most_bytes < n) (sym (length-header bytes whole)) long))
too_long bytes whole (inr many) =
    request-long _ _ (inr (subst (λ (n : ℕ). values_limit (frame_in bytes).header < n) (sym (length-values_of (value_count bytes) (drop (16 + header_len bytes) bytes))) many))

-- the answer to a frame that was skipped
pub IsAnswerTo-passed : (bytes : List ℕ) (f : Fault) → IsWhole bytes → IsPassed (frame_in bytes).header (header_len bytes) (value_count bytes) f → IsAnswerTo bytes (fault f)
IsAnswerTo-passed bytes f whole (inl memory) = inr (ap fault memory.0, memory.1)
IsAnswerTo-passed bytes f whole (inr long) = inl (ap fault long.0 ∙ sym (too_long bytes whole long.1))

-- how many bytes the frame of an answer has
pub length-bytes_in : (frame : AnswerFrame) → length (bytes_in frame) ≡ length (cow_slice_items frame.front) + 8 * length (values_in frame.tensor)
length-bytes_in frame =
    omega (arith, length-append (cow_slice_items frame.front) (flat_map value_bytes (values_in frame.tensor)), length-values (values_in frame.tensor))

-- how many bytes a frame has that was kept
pub length-kept : (bytes : List ℕ) (frame : WholeFrame) → IsWhole bytes → frame_under frame ≡ frame_in bytes
    → 16 + length frame.header.items + 8 * length frame.values.items ≡ length bytes
length-kept bytes frame whole same =
    let header : length frame.header.items ≡ header_len bytes = ap (λ (f : Frame). length f.header) same ∙ length-header bytes whole in
    let values : length frame.values.items ≡ value_count bytes =
    ap (λ (f : Frame). length f.values) same ∙ length-values_of (value_count bytes) (drop (16 + header_len bytes) bytes) in
    omega (arith, header, values, whole)

-- what an answer's frame says
pub Says-of : (o p : Option AnyFault) (bytes : List ℕ) → o ≡ p → Says bytes p → Says bytes o
Says-of o p bytes is says = subst (λ (q : Option AnyFault). Says bytes q) (sym is) says

-- the frame that answers a request, given the limit that it is over
IsFrameUnder-asked : (limits : Limits) (logs : Bool) (bytes : List ℕ) (a : Asked) (over : Option LimitFault) (frame : AnswerFrame)
    → request_in (frame_in bytes) ≡ Ok a → over ≡ over_limits limits a → IsOwnFrame over limits.seconds a frame → frame.steps ≡ steps_if limits logs a
    → IsShort (header_len bytes) (value_count bytes) → IsFrameUnder limits logs bytes frame
IsFrameUnder-asked limits logs bytes a (Some f) frame asks found own steps short =
    let refused : refusal limits (request_in (frame_in bytes)) ≡ Some f = ap (refusal limits) asks ∙ sym found in
    record {
      within = inl (own.0 ∙ sym (ap (λ (o : Option LimitFault). frame_unless o (answer_bytes (answer_of (frame_in bytes)))) refused));
      says = Says-of frame.fault (Some (any.Limit f)) (bytes_in frame) own.1 own.0;
      has = inl (steps ∙ sym (ap (steps_in limits logs) asks));
    }
IsFrameUnder-asked limits logs bytes a None frame asks found (inl (inl own)) steps short =
    let refused : refusal limits (request_in (frame_in bytes)) ≡ None = ap (refusal limits) asks ∙ sym found in
    record {
      within = inl (own.0 ∙ sym (ap (λ (o : Result Asked Fault). answer_bytes (answer_from o)) asks)
          ∙ sym (ap (λ (o : Option LimitFault). frame_unless o (answer_bytes (answer_of (frame_in bytes)))) refused));
      says = Says-of frame.fault None (bytes_in frame) own.1 (asked_tensor a, own.0);
      has = inl (steps ∙ sym (ap (steps_in limits logs) asks));
    }
IsFrameUnder-asked limits logs bytes a None frame asks found (inl (inr memory)) steps short = record {
  within = inr (inl (memory.bytes, short));
  says = Says-of frame.fault (Some (any.Request NoMemory)) (bytes_in frame) memory.fault memory.bytes;
  has = inl (steps ∙ sym (ap (steps_in limits logs) asks));
}
IsFrameUnder-asked limits logs bytes a None frame asks found (inr stopped) steps short = record {
  within = inr (inr (stopped.0.0, record { limited = stopped.1; asks = ap is_ok asks; allowed = ap (refusal limits) asks ∙ sym found }));
  says = Says-of frame.fault (Some (any.Limit TooManySeconds)) (bytes_in frame) stopped.0.1 stopped.0.0;
  has = inl (steps ∙ sym (ap (steps_in limits logs) asks));
}

pub IsFrameUnder-own : (limits : Limits) (logs : Bool) (bytes : List ℕ) (kept : WholeFrame) (request : Request) (frame : AnswerFrame)
    → frame_under kept ≡ frame_in bytes
    → request_of_frame kept.header.items kept.values.items ≡ Ok (asked_under request)
    → IsOwnFrame (over_limits limits (asked_under request)) limits.seconds (asked_under request) frame → frame.steps ≡ steps_if limits logs (asked_under request)
    → IsShort (header_len bytes) (value_count bytes) → IsFrameUnder limits logs bytes frame
IsFrameUnder-own limits logs bytes kept request frame same asks own steps short =
    IsFrameUnder-asked limits logs bytes (asked_under request) (over_limits limits (asked_under request)) frame (ap request_in (sym same) ∙ asks) refl own steps short

-- the frame of a limit, or of what is asked for where there is none
pub IsOwnFrame-limit : (over : Option LimitFault) (seconds : Option ℕ) (f : LimitFault) (a : Asked) (frame : AnswerFrame) → over ≡ Some f
    → bytes_in frame ≡ limit_frame f → frame.fault ≡ Some (any.Limit f) → IsOwnFrame over seconds a frame
IsOwnFrame-limit over seconds f a frame is bytes says = subst (λ (o : Option LimitFault). IsOwnFrame o seconds a frame) (sym is) (bytes, says)

pub IsOwnFrame-tensor : (over : Option LimitFault) (seconds : Option ℕ) (a : Asked) (frame : AnswerFrame) → over ≡ None
    → IsTensorFrame (asked_tensor a) frame ⊎ (IsLimitFrame TooManySeconds frame × IsSome seconds) → IsOwnFrame over seconds a frame
IsOwnFrame-tensor over seconds a frame is own = subst (λ (o : Option LimitFault). IsOwnFrame o seconds a frame) (sym is) own

-- the frame of a fault
fault-frame : (limits : Limits) (r : Result Asked Fault) (f : Fault) → fault f ≡ answer_from r
    → answer_bytes (fault f) ≡ frame_unless (refusal limits r) (answer_bytes (answer_from r))
fault-frame limits (Ok a) f is = absurd (fault_is_no_tensor f (asked_tensor a) is)
fault-frame limits (Err g) f is = ap answer_bytes is

IsFrameRead-fault : (limits : Limits) (bytes : List ℕ) (f : Fault) (answer : List ℕ) → IsFaultOf bytes f → answer ≡ answer_bytes (fault f)
    → IsFrameRead limits bytes answer
IsFrameRead-fault limits bytes f answer (inl own) is = inl (is ∙ fault-frame limits (request_in (frame_in bytes)) f own)
IsFrameRead-fault limits bytes f answer (inr memory) is = inr (inl (is ∙ ap answer_bytes memory.0, memory.1))

-- what is no request has no steps
HasSteps-none : (limits : Limits) (logs : Bool) (bytes : List ℕ) (f : Fault) (o : Option AnyFault) (steps : Option ℕ) → IsFaultOf bytes f → o ≡ Some (any.Request f) → steps ≡ None
    → HasSteps limits logs (request_in (frame_in bytes)) o steps
HasSteps-none limits logs bytes f o steps (inl own) is none = inl (none ∙ sym (steps-fault limits logs (request_in (frame_in bytes)) f own))
HasSteps-none limits logs bytes f o steps (inr memory) is none = inr (is ∙ ap (λ (g : Fault). Some (any.Request g)) (memory_of f memory.0), none)

pub IsFrameUnder-fault : (limits : Limits) (logs : Bool) (bytes : List ℕ) (f : Fault) (frame : AnswerFrame) → IsFaultOf bytes f → IsFaultFrame f frame → frame.steps ≡ None
    → IsFrameUnder limits logs bytes frame
IsFrameUnder-fault limits logs bytes f frame of is none = record {
  within = IsFrameRead-fault limits bytes f (bytes_in frame) of is.bytes;
  says = Says-of frame.fault (Some (any.Request f)) (bytes_in frame) is.fault is.bytes;
  has = HasSteps-none limits logs bytes f frame.fault frame.steps of is.fault none;
}

-- a header and values that aren't short are too long
IsShort-long : (header : List ℕ) (header_len value_count : ℕ) → IsTooLong header header_len value_count ⊎ IsShort header_len value_count
IsShort-long header header_len value_count = elim (dec_le header_len most_bytes) [
  | no long ↦ inl (inl (lt_of_not-le long))
  | yes short ↦ elim (dec_le value_count widest_values) [
    | no many ↦ inl (inr (omega (arith, lt_of_not-le many, (limit-between header).1)))
    | yes few ↦ inr (record { header = short; values = few })
  ]
]

-- a fault that isn't of a frame that is too long
pub short-fault : (bytes : List ℕ) (f : Fault) → IsWhole bytes → IsFaultOf bytes f → f ≢ TooLong → IsShort (header_len bytes) (value_count bytes)
short-fault bytes f whole (inr memory) other = memory.1
short-fault bytes f whole (inl own) other = elim (IsShort-long (frame_in bytes).header (header_len bytes) (value_count bytes)) [
  | inl long ↦ absurd (other (fault_of f (own ∙ too_long bytes whole long)))
  | inr short ↦ short
]

-- a frame that is longer than the limit of bytes, or isn't
pub IsFrameFrom-long : (limits : Limits) (logs : Bool) (bytes : List ℕ) (frame : AnswerFrame) → is_longer limits bytes ≡ true → bytes_in frame ≡ answer_bytes (fault TooLong)
    → frame.fault ≡ Some (any.Request TooLong) → frame.steps ≡ None → IsFrameFrom limits logs bytes frame
IsFrameFrom-long limits logs bytes frame long is says none =
    subst (λ (b : Bool). MatchBool b (SaysTooLong frame) (IsFrameUnder limits logs bytes frame)) (sym long)
    (record { says = record { bytes = is; fault = says }; none = none })

pub IsFrameFrom-read : (limits : Limits) (logs : Bool) (bytes : List ℕ) (frame : AnswerFrame) → is_longer limits bytes ≡ false → IsFrameUnder limits logs bytes frame
    → IsFrameFrom limits logs bytes frame
IsFrameFrom-read limits logs bytes frame short is = subst (λ (b : Bool). MatchBool b (SaysTooLong frame) (IsFrameUnder limits logs bytes frame)) (sym short) is

frame_by : Limits → List ℕ → Bool → List ℕ
frame_by limits bytes long = if long then answer_bytes (fault TooLong) else frame_read limits bytes

within_by : (limits : Limits) (logs : Bool) (bytes : List ℕ) (frame : AnswerFrame) (long : Bool) → is_longer limits bytes ≡ long
    → MatchBool long (SaysTooLong frame) (IsFrameUnder limits logs bytes frame) → IsFrameWithin limits bytes (bytes_in frame)
unfolding frame_by
within_by limits logs bytes frame true long is = inl (is.says.bytes ∙ sym (ap (frame_by limits bytes) long))
within_by limits logs bytes frame false short is = elim is.within [
  | inl own ↦ inl (own ∙ sym (ap (frame_by limits bytes) short))
  | inr other ↦ elim other [
    | inl memory ↦ inr (inl (memory.0, memory.1, short))
    | inr stopped ↦ inr (inr (stopped, short))
  ]
]

pub IsFrameWithin-from : (limits : Limits) (logs : Bool) (bytes : List ℕ) (frame : AnswerFrame) → IsFrameFrom limits logs bytes frame → IsFrameWithin limits bytes (bytes_in frame)
IsFrameWithin-from limits logs bytes frame is = within_by limits logs bytes frame (is_longer limits bytes) refl is
