-- The parts of a frame, one behind the other.
use Rattle.std.proofs.Common.{◌≡◌, ◌≤◌, ◌+◌, ◌*◌, ◌-◌, ℕ, List, [], ◌++◌, length, take, drop, Option}
use Rattle.std.proofs.Common.{ℤ, refl, ap, sym, ◌∙◌, subst, arith, length-append, inl, inr}
use Rattle.std.proofs.lemmas.List.{take_at, drop_at, length-take-le}
use Rattle.message_server.specs.History.{History}
use Rattle.message_server.specs.Streams.{HasFailed}
use Rattle.expr_reader.specs.Frame.{values_limit}
use Rattle.expr_reader.specs.declared.fault.Fault.{Fault}
use Rattle.frame_server.specs.Frame.{Frame, IsUnfinished, frame_in, header_len, value_count}
use Rattle.frame_server.specs.Answer.{IsShort}
use Rattle.message_server.specs.Pieces.{IsBelow}
use Rattle.frame_server.specs.private.Taking.{IsCutOff, IsHeadOf, IsKept, IsKeptRest, IsPassed, IsRefused, values_of}
use Rattle.message_server.specs.Pieces.{Takes, FailsIn}
use Rattle.frame_server.specs.private.Taking.{TakesCount, TakesValues, TakesHead, TakesRest, TakesFrame, StopsInFrame, MovesValues}
use Rattle.frame_server.specs.declared.frame.Head.{Head}
use Rattle.frame_server.specs.declared.frame.NextFrame.{NextFrame}
use Rattle.frame_server.specs.declared.frame.NextFrame.TheVariants.{Whole, Passed}
use Rattle.frame_server.specs.private.Laws.{header_len-append, value_count-append}
use Rattle.frame_server.proofs.Frames.{IsUnfinished-head, IsWhole-head, frame_in-head, values_of-append, length-values_of}
use Rattle.message_server.proofs.Takings.{Takes-none, Takes-then, Takes-wait, Takes-move, FailsIn-on}

pub TakesValues-none : (a : Option (List ℕ)) (h : Option History) (old : List ℕ) (values : List ℤ) → values ≡ [] → TakesValues a a h h old old values
TakesValues-none a h old values none =
    subst (λ (l : List ℤ). TakesValues a a h h old old l) (sym none)
    (record { bytes = []; takes = Takes-none a h old; counted = refl; read = refl })

pub TakesValues-wait : (a b c : Option (List ℕ)) (h k m : Option History) (old mid new : List ℕ) (values : List ℤ)
    → TakesValues a b h k old mid values → Takes b c k m mid new [] → TakesValues a c h m old new values
TakesValues-wait a b c h k m old mid new values t w = record {
  bytes = t.bytes;
  takes = Takes-wait a b c h k m old mid new t.bytes t.takes w;
  counted = t.counted;
  read = t.read;
}

pub TakesValues-move : (a b : Option (List ℕ)) (h k : Option History) (old mid new : List ℕ) (values now : List ℤ) (most : ℕ)
    → TakesValues a b h k old mid values → MovesValues most mid new values now → TakesValues a b h k old new now
TakesValues-move a b h k old mid new values now most t m =
    let piece = take (8 * m.count) mid in
    let len : length now ≡ length values + m.count =
    ap length m.kept_too ∙ length-append values (values_of m.count piece) ∙ ap (λ (n : ℕ). length values + n) (length-values_of m.count piece) in
    record {
      bytes = t.bytes ++ piece;
      takes = Takes-move a b h k old mid new t.bytes (t.bytes ++ piece) (8 * m.count) t.takes m.left refl;
      counted = omega (arith, len, t.counted, length-append t.bytes piece, length-take-le (8 * m.count) mid m.there);
      read = m.kept_too
          ∙ ap (λ (l : List ℤ). l ++ values_of m.count piece) t.read
          ∙ sym (values_of-append (length values) m.count t.bytes piece t.counted)
          ∙ ap (λ (n : ℕ). values_of n (t.bytes ++ piece)) (sym len);
    }

pub TakesCount-wait : (n : ℕ) (a b c : Option (List ℕ)) (h k m : Option History) (old mid new : List ℕ)
    → TakesCount n a b h k old mid → Takes b c k m mid new [] → TakesCount n a c h m old new
TakesCount-wait n a b c h k m old mid new t w = record {
  bytes = t.bytes;
  takes = Takes-wait a b c h k m old mid new t.bytes t.takes w;
  counted = t.counted;
}

pub TakesCount-skip : (n all : ℕ) (a b : Option (List ℕ)) (h k : Option History) (old mid new : List ℕ) (count : ℕ)
    → TakesCount n a b h k old mid → count ≤ length mid → new ≡ drop count mid → n + count ≡ all → TakesCount all a b h k old new
TakesCount-skip n all a b h k old mid new count t within left is = record {
  bytes = t.bytes ++ take count mid;
  takes = Takes-move a b h k old mid new t.bytes (t.bytes ++ take count mid) count t.takes left refl;
  counted = omega (arith, is, t.counted, length-append t.bytes (take count mid), length-take-le count mid within);
}

abbrev framed : List ℕ → List ℤ → Frame
framed header values = record { header = header; values = values }

-- a header and values
pub TakesRest-whole : (a b c : Option (List ℕ)) (h k m : Option History) (old mid new : List ℕ) (head : Head) (header : List ℕ) (values : List ℤ) (next : NextFrame)
    → Takes a b h k old mid header → length header ≡ head.header_len → TakesValues b c k m mid new values → length values ≡ head.value_count
    → ((bytes : List ℕ) → ◌≡◌ {A = Frame} (record { header = header; values = values }) (record {
      header = take head.header_len bytes;
      values = values_of head.value_count (drop head.header_len bytes);
    }) → IsKeptRest head bytes next)
    → TakesRest a c h m old new head next
TakesRest-whole a b c h k m old mid new head header values next t len v count kept =
    let front : take head.header_len (header ++ v.bytes) ≡ header = take_at header v.bytes head.header_len len in
    let back : values_of head.value_count (drop head.header_len (header ++ v.bytes)) ≡ values =
    ap (λ (l : List ℕ). values_of head.value_count l) (drop_at header v.bytes head.header_len len)
    ∙ ap (λ (n : ℕ). values_of n v.bytes) (sym count) ∙ sym v.read in
    record {
      bytes = header ++ v.bytes;
      takes = Takes-then a b c h k m old mid new header v.bytes t v.takes;
      counted = omega (arith, len, count, v.counted, length-append header v.bytes);
      kept = kept (header ++ v.bytes)
          (ap (λ (l : List ℕ). framed l values) (sym front)
          ∙ ap (λ (l : List ℤ). framed (take head.header_len (header ++ v.bytes)) l) (sym back));
    }

-- what isn't kept behind a header
pub IsPassed-refused : (header : List ℕ) (header_len value_count : ℕ) (fault : Fault) → IsShort header_len value_count
    → IsRefused header value_count fault → IsPassed header header_len value_count fault
IsPassed-refused header header_len value_count fault short (inl memory) = inl (memory, short)
IsPassed-refused header header_len value_count fault short (inr many) = inr (many.0, inr many.1)

-- a header, and all behind it skipped
pub TakesRest-behind : (a b c : Option (List ℕ)) (h k m : Option History) (old mid new : List ℕ) (head : Head) (header : List ℕ) (next : NextFrame) (count : ℕ)
    → Takes a b h k old mid header → length header ≡ head.header_len → TakesCount count b c k m mid new → count ≡ 8 * head.value_count
    → ((bytes : List ℕ) → take head.header_len bytes ≡ header → IsKeptRest head bytes next)
    → TakesRest a c h m old new head next
TakesRest-behind a b c h k m old mid new head header next count t len v is kept = record {
  bytes = header ++ v.bytes;
  takes = Takes-then a b c h k m old mid new header v.bytes t v.takes;
  counted = omega (arith, len, is, v.counted, length-append header v.bytes);
  kept = kept (header ++ v.bytes) (take_at header v.bytes head.header_len len);
}

-- what a head says of the whole frame
on_frame : (P : ℕ → ℕ → Type 0) (front bytes : List ℕ) (head : Head) → length front ≡ 16 → IsHeadOf front head → P head.header_len head.value_count
    → P (header_len (front ++ bytes)) (value_count (front ++ bytes))
on_frame P front bytes head sixteen told holds =
    let h : head.header_len ≡ header_len (front ++ bytes) = told.header ∙ sym (header_len-append front bytes (omega arith)) in
    let v : head.value_count ≡ value_count (front ++ bytes) = told.values ∙ sym (value_count-append front bytes (omega arith)) in
    subst (λ (n : ℕ). P (header_len (front ++ bytes)) n) v (subst (λ (n : ℕ). P n head.value_count) h holds)

IsKept-head : (front bytes : List ℕ) (head : Head) (next : NextFrame) → length front ≡ 16 → IsHeadOf front head → IsKeptRest head bytes next
    → IsKept (front ++ bytes) next
IsKept-head front bytes head (Whole frame) sixteen told kept =
    let sizes = on_frame (λ h v. IsShort h v × (v ≤ values_limit frame.header.items)) front bytes head sixteen told (kept.1, kept.2) in (
      kept.0
          ∙ ap (λ (n : ℕ). framed (take n bytes) (values_of head.value_count (drop n bytes))) told.header
          ∙ ap (λ (n : ℕ). framed (take (header_len front) bytes) (values_of n (drop (header_len front) bytes))) told.values
          ∙ sym (frame_in-head front bytes sixteen),
      sizes.0,
      sizes.1,
    )
IsKept-head front bytes head (Passed fault len) sixteen told passed =
    let header : take head.header_len bytes ≡ (frame_in (front ++ bytes)).header =
    ap (λ (n : ℕ). take n bytes) told.header ∙ sym (ap (λ (f : Frame). f.header) (frame_in-head front bytes sixteen)) in
    on_frame (λ h v. IsPassed (frame_in (front ++ bytes)).header h v fault × (len ≡ 16 + h + 8 * v)) front bytes head sixteen told
    (subst (λ (l : List ℕ). IsPassed l head.header_len head.value_count fault) header passed.0, omega (arith, passed.1))

-- a frame
pub TakesFrame-of : (a b c : Option (List ℕ)) (h k m : Option History) (old mid new : List ℕ) (head : Head) (next : NextFrame)
    → TakesHead a b h k old mid head → TakesRest b c k m mid new head next → TakesFrame a c h m old new next
TakesFrame-of a b c h k m old mid new head next t r = record {
  bytes = t.bytes ++ r.bytes;
  takes = Takes-then a b c h k m old mid new t.bytes r.bytes t.takes r.takes;
  whole = IsWhole-head t.bytes r.bytes t.counted (omega (arith, r.counted, t.told.header, t.told.values));
  kept = IsKept-head t.bytes r.bytes head next t.counted t.told r.kept;
}

-- a head and fewer bytes than it tells
pub unfinished_behind : (front xs : List ℕ) (head : Head) → length front ≡ 16 → IsHeadOf front head → IsBelow (head.header_len + 8 * head.value_count) xs
    → IsUnfinished (front ++ xs)
unfinished_behind front xs head sixteen told few =
    IsUnfinished-head front xs sixteen (omega (arith, few, told.header, told.values))

-- the reading stopped behind a head
pub StopsInFrame-behind : (a b c : Option (List ℕ)) (h k : Option History) (first failed fails : ℕ) (old mid : List ℕ) (head : Head)
    → TakesHead a b h k old mid head → failed ≡ first → FailsIn (IsBelow (head.header_len + 8 * head.value_count)) b c mid → IsCutOff failed fails c
    → StopsInFrame a c first fails old
StopsInFrame-behind a b c h k first failed fails old mid head t same f cut =
    let all = FailsIn-on (λ (xs : List ℕ). IsUnfinished xs × (16 ≤ length xs)) (IsBelow (head.header_len + 8 * head.value_count)) a b c h k old mid t.bytes t.takes f
    (λ xs few. (unfinished_behind t.bytes xs head t.counted t.told few, omega (arith, t.counted, length-append t.bytes xs))) in
    record {
      read = all.read;
      consumed = all.consumed;
      unfinished = all.kind.0;
      why = elim cut [
        | inl broke ↦ inl (subst (λ (n : ℕ). HasFailed n fails) same broke)
        | inr ended ↦ inr (ended.0 ∙ same, ended.1, omega (arith, all.kind.1))
      ];
    }
