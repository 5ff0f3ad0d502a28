-- The messages of a stream are its frames.
use Rattle.std.proofs.Common.{◌≡◌, ◌<◌, ℕ, List, [], ◌∷◌, ◌++◌, length, All, Bool, Option, Some, None, IfSome, Result, OnOk}
use Rattle.std.proofs.Common.{refl, ap, sym, ◌∙◌, subst, arith, inl, inr}
use Rattle.std.proofs.lemmas.List.{append-nil}
use Rattle.std.specs.List.{concat}
use Rattle.message_server.specs.History.{History}
use Rattle.message_server.specs.Notes.{Notes, NotesAll, NotesSome}
use Rattle.message_server.specs.Parting.{IsCut, EndsWith, AnswersAll, CutsSome}
use Rattle.message_server.specs.Parting as messages
use Rattle.message_server.specs.Serving.{Answers, CutsShort}
use Rattle.message_server.specs.Taking.{EndsBy, TakesMessage, StopsIn}
use Rattle.message_server.proofs.Streams.{OnOk-follows}
use Rattle.tensor_runner.specs.declared.journal.Entry.{Entry}
use Rattle.tensor_runner.specs.declared.limits.Limits.{Limits}
use Rattle.frame_server.specs.Frame.{IsWhole, IsUnfinished}
use Rattle.frame_server.specs.Limited.{whole_frames_within, AnswersFramesWithin, CutsFramesShortWithin}
use Rattle.frame_server.specs.NotedFrames.{noted_frames, NotesFrames, NotesSomeFrames}
use Rattle.frame_server.specs.private.Laws.{joined-frames}
use Rattle.frame_server.specs.private.Parting.{by_sizes}
use Rattle.frame_server.specs.private.Taking.{IsKept, TakesFrame, Ends, StopsInFrame}
use Rattle.frame_server.specs.Stream.{EndsInside, StopsReading}
use Rattle.frame_server.specs.declared.frame.NextFrame.{NextFrame}
use Rattle.frame_server.proofs.Frames.{IsUnfinished-short}

-- a prefix that has a byte
IsCut-some : (bytes : List ℕ) → IsUnfinished bytes → 0 < length bytes → IsCut by_sizes bytes
IsCut-some bytes unfinished some = record { unfinished = unfinished; no_end = λ last end. omega (arith, some, ap length end.0) }

some-IsCut : (bytes : List ℕ) → IsCut by_sizes bytes → 0 < length bytes
some-IsCut [] cut = absurd (cut.no_end [] (refl, refl))
some-IsCut (b ∷ bytes) cut = omega arith

pub StopsIn-frame : (a b : Option (List ℕ)) (failed fails : ℕ) (old : List ℕ) → StopsInFrame a b failed fails old → StopsIn by_sizes a b failed fails old
StopsIn-frame a b failed fails old stops = record {
  read = stops.read;
  consumed = stops.consumed;
  unfinished = stops.unfinished;
  why = elim stops.why [
    | inl broke ↦ inl broke
    | inr ended ↦ inr (ended.0, ended.1, IsCut-some (old ++ stops.read) stops.unfinished ended.2)
  ];
}

pub TakesMessage-frame : (a b : Option (List ℕ)) (h k : Option History) (old new : List ℕ) (next : NextFrame) → TakesFrame a b h k old new next
    → TakesMessage by_sizes (λ (bytes : List ℕ) (kept : NextFrame). IsWhole bytes × IsKept bytes kept) a b h k old new next
TakesMessage-frame a b h k old new next t = record { message = t.bytes; takes = t.takes; whole = t.whole; kept_of = (t.whole, t.kept) }

pub EndsBy-frame : (a b : Option (List ℕ)) (h k : Option History) (old new : List ℕ) → Ends a b h k old new → EndsBy by_sizes a b h k old []
EndsBy-frame a b h k old new e = record {
  read = e.takes.read;
  reads = e.takes.reads;
  ending = (e.takes.parted ∙ e.nothing, refl);
  at_end = e.at_end;
}

inside : (cut : List ℕ) (before after : Option (List ℕ)) → IsCut by_sizes cut → IfSome before (EndsWith by_sizes cut after) → IfSome before (EndsInside after)
inside cut None after is ends = tt
inside cut (Some stream) after is ends = record {
  frames = ends.done;
  cut = cut;
  parted = record {
    joined = ends.parted.parted ∙ ap (λ (l : List ℕ). l ++ cut) (joined-frames ends.done);
    whole = ends.parted.whole;
    unfinished = is.unfinished;
  };
  some = some-IsCut cut is;
  nothing = ends.nothing;
}

-- why no more was read
pub StopsReading-frame : (failed fails : ℕ) (before after : Option (List ℕ)) → messages.StopsReading by_sizes failed fails before after
    → StopsReading failed fails before after
StopsReading-frame failed fails before after stops = elim stops [
  | inl broke ↦ inl broke
  | inr ended ↦ inr (ended.0, inside ended.1 before after ended.2 ended.3)
]

-- under limits
module _ (limits : Limits) where
  pub OnOk-frames : {U E : Type 0} (r : Result U E) (stream held : List ℕ) (c : Option (List ℕ))
      → OnOk r (AnswersAll by_sizes (whole_frames_within limits) stream held c) → OnOk r (AnswersFramesWithin limits stream held c)
  OnOk-frames r stream held c = OnOk-follows r _ _ (λ is.
      let all = is.all in
      let done : is.messages ≡ all.done = all.all ∙ ap (λ (l : List (List ℕ)). all.done ++ l) all.ending.1 ∙ append-nil all.done in
      record {
        frames = all.done;
        parted = record {
          joined = all.parted.parted ∙ ap (λ (l : List ℕ). l ++ all.rest) (joined-frames all.done) ∙ ap (λ (l : List ℕ). concat all.done ++ l) all.ending.0;
          whole = all.parted.whole;
          unfinished = IsUnfinished-short [] (omega arith);
        };
        answered = subst (λ (l : List (List ℕ)). Answers (whole_frames_within limits) l held c) done is.answered;
      })

  pub CutsFramesShort-some : (stream held : List ℕ) (c : Option (List ℕ)) → CutsSome by_sizes (whole_frames_within limits) stream held c
      → CutsFramesShortWithin limits stream held c
  CutsFramesShort-some stream held c cut = elim cut.begun [
    | inl front ↦ record {
      frames = cut.messages;
      rest = front.0;
      joined = front.1.parted ∙ ap (λ (l : List ℕ). l ++ front.0) (joined-frames cut.messages);
      whole = front.1.whole;
      short = cut.short;
    }
    | inr all ↦
        let done : cut.messages ≡ all.done = all.all ∙ ap (λ (l : List (List ℕ)). all.done ++ l) all.ending.1 ∙ append-nil all.done in
        record {
          frames = all.done;
          rest = all.rest;
          joined = all.parted.parted ∙ ap (λ (l : List ℕ). l ++ all.rest) (joined-frames all.done);
          whole = all.parted.whole;
          short = subst (λ (l : List (List ℕ)). CutsShort (whole_frames_within limits) l held c) done cut.short;
        }
  ]

  -- with the entries on the answers
  module _ (logs : Bool) where
    pub NotesFrames-all : (stream held : List ℕ) (c : Option (List ℕ)) (n m : Option (List Entry))
        → NotesAll (noted_frames limits logs) by_sizes stream held c n m → NotesFrames limits logs stream held c n m
    NotesFrames-all stream held c n m is =
        let all = is.all in
        let done : is.messages ≡ all.done = all.all ∙ ap (λ (l : List (List ℕ)). all.done ++ l) all.ending.1 ∙ append-nil all.done in
        record {
          frames = all.done;
          parted = record {
            joined = all.parted.parted ∙ ap (λ (l : List ℕ). l ++ all.rest) (joined-frames all.done) ∙ ap (λ (l : List ℕ). concat all.done ++ l) all.ending.0;
            whole = all.parted.whole;
            unfinished = IsUnfinished-short [] (omega arith);
          };
          noted = subst (λ (l : List (List ℕ)). Notes (noted_frames limits logs) l held [] c n m) done is.noted;
        }

    pub NotesSomeFrames-some : (stream held : List ℕ) (c : Option (List ℕ)) (n m : Option (List Entry))
        → NotesSome (noted_frames limits logs) by_sizes stream held c n m → NotesSomeFrames limits logs stream held c n m
    NotesSomeFrames-some stream held c n m some =
        let frames = some.messages ++ some.next ∷ [] in
        elim some.begun [
          | inl front ↦ record {
            frames = some.messages;
            next = some.next;
            rest = front.0;
            joined = front.1.parted ∙ ap (λ (l : List ℕ). l ++ front.0) (joined-frames frames);
            whole = front.1.whole;
            short = some.short;
          }
          | inr all ↦
              let done : all.done ≡ frames = sym (all.all ∙ ap (λ (l : List (List ℕ)). all.done ++ l) all.ending.1 ∙ append-nil all.done) in
              record {
                frames = some.messages;
                next = some.next;
                rest = all.rest;
                joined = all.parted.parted ∙ ap (λ (l : List ℕ). l ++ all.rest) (joined-frames all.done)
                    ∙ ap (λ (l : List (List ℕ)). concat l ++ all.rest) done;
                whole = subst (λ (l : List (List ℕ)). All IsWhole l) done all.parted.whole;
                short = some.short;
              }
        ]
