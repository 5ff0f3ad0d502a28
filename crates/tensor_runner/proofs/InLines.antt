-- From a piece to a line.
use Rattle.std.proofs.Common.{◌≡◌, ◌==◌, ◌<◌, ℕ, List, [], ◌∷◌, ◌++◌, Bool, true, false, Option, IfSome}
use Rattle.std.proofs.Common.{refl, ap, sym, ◌∙◌, subst, arith, inl}
use Rattle.std.proofs.lemmas.List.{append-nil, nil_from_length}
use Rattle.std.proofs.lemmas.List.Elements.{All-append, All-nil}
use Rattle.std.specs.Io.KnownBytes.{IsAtEnd}
use Rattle.message_server.specs.History.{History}
use Rattle.message_server.specs.Pieces.{IsBelow, OwesNothingWhile, Takes, FailsIn}
use Rattle.message_server.specs.Streams.{HasFailed}
use Rattle.message_server.specs.Taking.{EndsBy, TakesMessage, TakesLast, StopsIn}
use Rattle.message_server.proofs.Takings.{Takes-none, Takes-more, Takes-wait, owes-on, FailsIn-on}
use Rattle.tensor_runner.specs.Lines.{lines_of}
use Rattle.tensor_runner.specs.private.Kept.{IsKept, kept_len}
use Rattle.tensor_runner.specs.private.Parting.{by_feeds}
use Rattle.tensor_runner.specs.private.Taking.{HasNoFeed, TakesPiece, InLine}
use Rattle.tensor_runner.specs.declared.kept.KeptText.{KeptText}
use Rattle.tensor_runner.proofs.Parts.{lines_of-last}
use Rattle.tensor_runner.proofs.Streams.{kept-len}

-- a byte that is no line feed
abbrev IsPlain : ℕ → Type 0
IsPlain b = (b == 10) ≡ false

-- no byte of a line was taken yet
pub InLine-start : (a : Option (List ℕ)) (h : Option History) (pending : List ℕ) (kept : KeptText) → IsKept [] kept → InLine a a h h pending pending kept
InLine-start a h pending kept is = record {
  line = [];
  takes = Takes-none a h pending;
  no_feed = All-nil IsPlain;
  kept_of = is;
}

-- a line whose line feed was found
pub TakesMessage-feed : (a b : Option (List ℕ)) (h k : Option History) (old now new : List ℕ) (before after : KeptText) (ended : Bool)
    → InLine a b h k old now before → ended ≡ true → TakesPiece now new ended before after → TakesMessage by_feeds IsKept a b h k old new after
TakesMessage-feed a b h k old now new before after ended i is piece =
    let t = subst (λ (e : Bool). TakesPiece now new e before after) is piece in
    let line = i.line ++ t.piece in
    record {
      message = line;
      takes = Takes-more a b h k old (10 ∷ new) new line (10 ∷ []) (Takes-more a b h k old now (10 ∷ new) i.line t.piece i.takes t.parted) refl;
      whole = All-append IsPlain i.line t.piece i.no_feed t.no_feed;
      kept_of = t.kept i.line i.kept_of;
    }

-- all that was held belongs to the line
pub InLine-open : (a b : Option (List ℕ)) (h k : Option History) (old now new : List ℕ) (before after : KeptText) (ended : Bool)
    → InLine a b h k old now before → ended ≡ false → TakesPiece now new ended before after → InLine a b h k old new after
InLine-open a b h k old now new before after ended i is piece =
    let t = subst (λ (e : Bool). TakesPiece now new e before after) is piece in
    record {
      line = i.line ++ t.piece;
      takes = Takes-more a b h k old now new i.line t.piece i.takes t.parted;
      no_feed = All-append IsPlain i.line t.piece i.no_feed t.no_feed;
      kept_of = t.kept i.line i.kept_of;
    }

plain_on : (line xs : List ℕ) → HasNoFeed line → IsBelow 1 xs → HasNoFeed (line ++ xs)
plain_on line xs plain few =
    let none : xs ≡ [] = nil_from_length xs (omega (arith, few)) in
    subst (λ (l : List ℕ). HasNoFeed (line ++ l)) (sym none) (subst HasNoFeed (sym (append-nil line)) plain)

-- so that nothing is owed
pub InLine-owes : (a b : Option (List ℕ)) (h k : Option History) (old now : List ℕ) (kept : KeptText) (owes : History → Type 0)
    → IfSome h (OwesNothingWhile HasNoFeed owes old) → InLine a b h k old now kept → IfSome k (OwesNothingWhile (IsBelow 1) owes now)
InLine-owes a b h k old now kept owes nothing i =
    owes-on HasNoFeed (IsBelow 1) owes a b h k old now i.line nothing i.takes (λ xs few. plain_on i.line xs i.no_feed few)

-- more was read
pub InLine-more : (a b c : Option (List ℕ)) (h k m : Option History) (old now new : List ℕ) (kept : KeptText)
    → InLine a b h k old now kept → Takes b c k m now new [] → InLine a c h m old new kept
InLine-more a b c h k m old now new kept i more = record {
  line = i.line;
  takes = Takes-wait a b c h k m old now new i.line i.takes more;
  no_feed = i.no_feed;
  kept_of = i.kept_of;
}

-- the client's bytes are at their end
line_end : (a b : Option (List ℕ)) (h k : Option History) (old now : List ℕ) (kept : KeptText) (i : InLine a b h k old now kept) → IsBelow 1 now → IsAtEnd b
    → EndsBy by_feeds a b h k old (lines_of i.line)
line_end a b h k old now kept i few end =
    let none : now ≡ [] = nil_from_length now (omega (arith, few)) in
    let all : old ++ i.takes.read ≡ i.line = i.takes.parted ∙ ap (λ (l : List ℕ). i.line ++ l) none ∙ append-nil i.line in
    record {
      read = i.takes.read;
      reads = i.takes.reads;
      ending = (subst HasNoFeed (sym all) i.no_feed, ap lines_of (sym all));
      at_end = end;
    }

-- what is kept of a line tells whether it is empty
nothing_kept : (line : List ℕ) (kept : KeptText) → IsKept line kept → kept_len kept ≡ 0 → lines_of line ≡ []
nothing_kept [] kept is none = refl
nothing_kept (b ∷ line) kept is none = absurd (omega (arith, kept-len (b ∷ line) kept is, none))

-- behind a line feed
pub EndsBy-none : (a b : Option (List ℕ)) (h k : Option History) (old now : List ℕ) (kept : KeptText) → InLine a b h k old now kept → IsBelow 1 now → IsAtEnd b
    → kept_len kept ≡ 0 → EndsBy by_feeds a b h k old []
EndsBy-none a b h k old now kept i few end none =
    subst (λ (l : List (List ℕ)). EndsBy by_feeds a b h k old l) (nothing_kept i.line kept i.kept_of none) (line_end a b h k old now kept i few end)

-- behind a line that has none
pub TakesLast-line : (a b : Option (List ℕ)) (h k : Option History) (old now : List ℕ) (kept : KeptText) → InLine a b h k old now kept → IsBelow 1 now → IsAtEnd b
    → 0 < kept_len kept → TakesLast by_feeds IsKept a b h k old kept
TakesLast-line a b h k old now kept i few end some = record {
  message = i.line;
  ends = subst (λ (l : List (List ℕ)). EndsBy by_feeds a b h k old l)
      (lines_of-last i.line i.no_feed (omega (arith, kept-len i.line kept i.kept_of, some))) (line_end a b h k old now kept i few end);
  kept_of = i.kept_of;
}

-- a read failed
pub StopsIn-line : (a b c : Option (List ℕ)) (h k : Option History) (first failed fails : ℕ) (old now : List ℕ) (kept : KeptText)
    → InLine a b h k old now kept → FailsIn (IsBelow 1) b c now → failed ≡ first → HasFailed failed fails → StopsIn by_feeds a c first fails old
StopsIn-line a b c h k first failed fails old now kept i f same broke =
    let stops = FailsIn-on HasNoFeed (IsBelow 1) a b c h k old now i.line i.takes f (λ xs few. plain_on i.line xs i.no_feed few) in
    record {
      read = stops.read;
      consumed = stops.consumed;
      unfinished = stops.kind;
      why = inl (subst (λ (n : ℕ). HasFailed n fails) same broke);
    }
