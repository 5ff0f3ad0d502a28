-- The messages of a text are its lines.
use Rattle.std.proofs.Common.{◌≡◌, ℕ, List, [], ◌∷◌, ◌++◌, Bool, Option, Result, OnOk, refl, ap, sym, ◌∙◌, subst, append_assoc, inl, inr}
use Rattle.message_server.specs.Notes.{NotesAll, NotesSome}
use Rattle.message_server.specs.Parting.{AreAll, StopsReading, AnswersAll, CutsSome}
use Rattle.message_server.specs.Streams.{HasFailed}
use Rattle.message_server.proofs.Serving.{CutsShort-more}
use Rattle.message_server.proofs.Streams.{OnOk-follows}
use Rattle.tensor_runner.specs.Limited.{lines_within, AnswersLinesWithin, CutsLinesShortWithin}
use Rattle.tensor_runner.specs.Lines.{lines_of}
use Rattle.tensor_runner.specs.NotedLines.{noted_lines, NotesLines, NotesSomeLines}
use Rattle.tensor_runner.specs.private.Parting.{by_feeds}
use Rattle.tensor_runner.specs.declared.journal.Entry.{Entry}
use Rattle.tensor_runner.specs.declared.limits.Limits.{Limits}
use Rattle.tensor_runner.proofs.Parts.{lines_of-with_feeds, answers_of}

lines_in : (text : List ℕ) (messages : List (List ℕ)) → AreAll by_feeds text messages → messages ≡ lines_of text
lines_in text messages all =
    all.all ∙ ap (λ (l : List (List ℕ)). all.done ++ l) all.ending.1 ∙ sym (lines_of-with_feeds all.done all.rest all.parted.whole)
    ∙ sym (ap lines_of all.parted.parted)

-- the bytes may end wherever a line has
pub HasFailed-line : (failed fails : ℕ) (before after : Option (List ℕ)) → StopsReading by_feeds failed fails before after → HasFailed failed fails
HasFailed-line failed fails before after stops = elim stops [
  | inl broke ↦ broke
  | inr inside ↦ absurd (inside.2.no_end (lines_of inside.1) (inside.2.unfinished, refl))
]

-- under limits
module _ (limits : Limits) where
  pub OnOk-lines : {U E : Type 0} (r : Result U E) (text held : List ℕ) (c : Option (List ℕ)) → OnOk r (AnswersAll by_feeds (lines_within limits) text held c)
      → OnOk r (AnswersLinesWithin limits (lines_of text) held c)
  OnOk-lines r text held c =
      OnOk-follows r _ _ (λ is. subst (λ (l : List (List ℕ)). AnswersLinesWithin limits l held c) (lines_in text is.messages is.all) is.answered)

  pub CutsLinesShort-some : (text held : List ℕ) (c : Option (List ℕ)) → CutsSome by_feeds (lines_within limits) text held c
      → CutsLinesShortWithin limits (lines_of text) held c
  CutsLinesShort-some text held c cut = elim cut.begun [
    | inl front ↦
        let others = answers_of limits (lines_of front.0) in
        subst (λ (l : List (List ℕ)). CutsLinesShortWithin limits l held c)
        (sym (ap lines_of front.1.parted ∙ lines_of-with_feeds cut.messages front.0 front.1.whole))
        (CutsShort-more (lines_within limits) cut.messages (lines_of front.0) others.0 held c others.1 cut.short)
    | inr all ↦ subst (λ (l : List (List ℕ)). CutsLinesShortWithin limits l held c) (lines_in text cut.messages all) cut.short
  ]

  -- with the entries on the answers
  module _ (logs : Bool) where
    pub NotesLines-all : (text held : List ℕ) (c : Option (List ℕ)) (n m : Option (List Entry)) → NotesAll (noted_lines limits logs) by_feeds text held c n m
        → NotesLines limits logs (lines_of text) held c n m
    NotesLines-all text held c n m all =
        subst (λ (l : List (List ℕ)). NotesLines limits logs l held c n m) (lines_in text all.messages all.all) all.noted

    pub NotesSomeLines-some : (text held : List ℕ) (c : Option (List ℕ)) (n m : Option (List Entry)) → NotesSome (noted_lines limits logs) by_feeds text held c n m
        → NotesSomeLines limits logs (lines_of text) held c n m
    NotesSomeLines-some text held c n m some = elim some.begun [
      | inl front ↦ record {
        done = some.messages;
        next = some.next;
        more = lines_of front.0;
        parted = ap lines_of front.1.parted ∙ lines_of-with_feeds (some.messages ++ some.next ∷ []) front.0 front.1.whole
            ∙ append_assoc some.messages (some.next ∷ []) (lines_of front.0);
        short = some.short;
      }
      | inr all ↦ record {
        done = some.messages;
        next = some.next;
        more = [];
        parted = sym (lines_in text (some.messages ++ some.next ∷ []) all);
        short = some.short;
      }
    ]
