-- From message to message.
use Rattle.std.proofs.Common.{◌≡◌, ◌<◌, ℕ, List, [], ◌∷◌, ◌++◌, length, take, All}
use Rattle.std.proofs.Common.{Result, Ok, Err, OnOk, Option, Some, None, IfSome, option_map, refl, ap, sym, ◌∙◌, subst, append_assoc, arith, length-append, inl, inr}
use Rattle.std.proofs.lemmas.List.{append-nil, take-append-le}
use Rattle.std.proofs.lemmas.List.Concat.{flat_map-append}
use Rattle.std.proofs.lemmas.List.Elements.{All-push, All-nil}
use Rattle.std.specs.Io.KnownBytes.{Appends, Consumes, IsAtEnd}
use Rattle.std.specs.Prelude.{MatchResult}
use Rattle.message_server.specs.Ending.{IsQuiet, IsComplaint, EndsServing}
use Rattle.message_server.specs.History.{History, IsNew, reading, writing}
use Rattle.message_server.specs.Notes.{Adds, noting, notes_on, NotesShort, NotesWhole, NotesAll, NotesSome}
use Rattle.message_server.specs.Parting.{Parting, joined, IsParted, AreAll, StopsReading, EndsWith, Laws}
use Rattle.message_server.specs.Pieces.{AppendsFront, OwesNothingWhile}
use Rattle.message_server.specs.Server.{IsAllOf, Serves}
use Rattle.message_server.specs.Taking.{EndsBy, TakesMessage, StopsIn}
use Rattle.message_server.specs.Serving.{Framing, AreAnswers, bytes_answering, CutsShort, GoesBy}
use Rattle.message_server.specs.Streams.{HasFailed}
use Rattle.message_server.specs.declared.ending.Ending.{Ending}
use Rattle.message_server.specs.declared.fault.StreamFault.{StreamFault}
use Rattle.message_server.specs.declared.fault.StreamFault.TheVariants.{ReadFault, WriteFault}
use Rattle.message_server.proofs.Notes.{Adds-none, Adds-same, Adds-more, notes_on-append, answers-append}
use Rattle.message_server.proofs.Streams.{Consumes-trans, Consumes-none, Consumes-Some, Appends-trans, Appends-none, Appends-Some}

-- before the first message
IsAllOf-new : (h : Option History) (all : List ℕ) → all ≡ [] → IfSome h IsNew → IfSome h (IsAllOf all [])
IsAllOf-new None all nothing new = tt
IsAllOf-new (Some h) all nothing new = (new.0 ∙ sym nothing, new.1)

IsAllOf-more : (h k m : Option History) (read answer taken written : List ℕ) → IfSome h (IsAllOf taken written)
    → k ≡ option_map (reading read) h → m ≡ option_map (writing answer) k → IfSome m (IsAllOf (taken ++ read) (written ++ answer))
IsAllOf-more None k m read answer taken written all first then =
    subst (λ (o : Option History). IfSome o (IsAllOf (taken ++ read) (written ++ answer))) (sym (then ∙ ap (λ (o : Option History). option_map (writing answer) o) first)) tt
IsAllOf-more (Some h) k m read answer taken written all first then =
    subst (λ (o : Option History). IfSome o (IsAllOf (taken ++ read) (written ++ answer))) (sym (then ∙ ap (λ (o : Option History). option_map (writing answer) o) first))
    (ap (λ (l : List ℕ). l ++ read) all.0, ap (λ (l : List ℕ). l ++ answer) all.1)

pub rest_at_end : (r : Option (List ℕ)) (rest : List ℕ) → r ≡ Some rest → IsAtEnd r → rest ≡ []
rest_at_end r rest is end = let e : IsAtEnd (Some rest) = subst IsAtEnd is end in e

appended_of : (c0 c1 : Option (List ℕ)) (held xs : List ℕ) → Appends c0 c1 xs → c0 ≡ Some held → c1 ≡ Some (held ++ xs)
appended_of c0 c1 held xs appended known = Appends-Some held c1 xs (subst (λ (o : Option (List ℕ)). Appends o c1 xs) known appended)

-- rules that stayed the same
module _ {R A N : Type 0} (framing : R → Framing A) (IsNote : R → List ℕ → A → N → Type 0) (r s : R) (same : s ≡ r) where
  abbrev by : R → Framing (A × N)
  by x = noting (framing x) (IsNote x)

  pub answers-by : (message : List ℕ) (a : A × N) → (by s).IsAnswer message a → (by r).IsAnswer message a
  answers-by message a = subst (λ (x : R). (by x).IsAnswer message a) same

  pub appends-by : (c0 c1 : Option (List ℕ)) (a : A × N) → Appends c0 c1 ((by s).bytes_of a) → Appends c0 c1 ((by r).bytes_of a)
  appends-by c0 c1 a = subst (λ (x : R). Appends c0 c1 ((by x).bytes_of a)) same

  pub writing-by : (h k : Option History) (a : A × N) → k ≡ option_map (writing ((by s).bytes_of a)) h → k ≡ option_map (writing ((by r).bytes_of a)) h
  writing-by h k a = subst (λ (x : R). k ≡ option_map (writing ((by x).bytes_of a)) h) same

  pub front-by : (c0 c1 : Option (List ℕ)) (a : A × N) → AppendsFront c0 c1 ((by s).bytes_of a) → AppendsFront c0 c1 ((by r).bytes_of a)
  front-by c0 c1 a = subst (λ (x : R). AppendsFront c0 c1 ((by x).bytes_of a)) same

module _ {A : Type 0} (f : Framing A) where
  one_more : (given : List A) (a : A) → bytes_answering f given ++ f.bytes_of a ≡ bytes_answering f (given ++ a ∷ [])
  one_more given a =
      ap (λ (l : List ℕ). bytes_answering f given ++ l) (sym (append-nil (f.bytes_of a))) ∙ sym (flat_map-append f.bytes_of given (a ∷ []))

  -- a prefix of the answers to some messages is a prefix of the answers to more
  pub CutsShort-more : (ms more : List (List ℕ)) (others : List A) (held : List ℕ) (c : Option (List ℕ)) → AreAnswers f more others
      → CutsShort f ms held c → CutsShort f (ms ++ more) held c
  CutsShort-more ms more others held c are cut =
      let all : bytes_answering f (cut.answers ++ others) ≡ bytes_answering f cut.answers ++ bytes_answering f others =
      flat_map-append f.bytes_of cut.answers others in
      let short : cut.front < length (bytes_answering f cut.answers) = cut.short in
      record {
        answers = cut.answers ++ others;
        answered = answers-append f ms more cut.answers others cut.answered are;
        front = cut.front;
        short = omega (arith, short, ap length all, length-append (bytes_answering f cut.answers) (bytes_answering f others));
        written = cut.written ∙ ap (λ (l : List ℕ). Some (held ++ l))
            (sym (ap (λ (l : List ℕ). take cut.front l) all
            ∙ take-append-le cut.front (bytes_answering f cut.answers) (bytes_answering f others) (omega (arith, short))));
      }

-- answers with notes
module _ {A N : Type 0} (f : Framing (A × N)) where
  noted-more : (j0 j1 j2 : Option (List N)) (given more : List (A × N)) → Adds (notes_on given) j0 j1 → Adds (notes_on more) j1 j2
      → Adds (notes_on (given ++ more)) j0 j2
  noted-more j0 j1 j2 given more first then =
      subst (λ (l : List N). Adds l j0 j2) (sym (notes_on-append given more)) (Adds-more j0 j1 j2 (notes_on given) (notes_on more) first then)

  module _ (p : Parting) (laws : Laws p f) where
    joined-push : (done : List (List ℕ)) (message rest : List ℕ) → joined p (done ++ message ∷ []) ++ rest ≡ joined p done ++ (p.with_end message ++ rest)
    joined-push done message rest =
        ap (λ (l : List ℕ). l ++ rest) (flat_map-append p.with_end done (message ∷ []) ∙ ap (λ (l : List ℕ). joined p done ++ l) (append-nil (p.with_end message)))
        ∙ append_assoc (joined p done) (p.with_end message) rest

    pub Serves-start : (r c : Option (List ℕ)) (h : Option History) (j : Option (List N)) (pending : List ℕ) → pending ≡ [] → IfSome h IsNew → Serves f p r r c c h j j pending
    Serves-start r c h j pending nothing new = record {
      done = [];
      answers = [];
      consumed = subst (λ (l : List ℕ). Consumes r r l) (sym nothing) (Consumes-none r);
      whole = All-nil p.IsMessage;
      answered = tt;
      appended = Appends-none c;
      noted = IsAllOf-new h pending nothing new;
      added = Adds-none j;
    }

    -- nothing is owed while a message isn't whole
    pub Serves-owes : (r0 r1 c0 c1 : Option (List ℕ)) (h : Option History) (j0 j1 : Option (List N)) (pending : List ℕ) (owes : History → Type 0)
        → Serves f p r0 r1 c0 c1 h j0 j1 pending → GoesBy f owes → IfSome h (OwesNothingWhile p.IsUnfinished owes pending)
    Serves-owes r0 r1 c0 c1 None j0 j1 pending owes s goes = tt
    Serves-owes r0 r1 c0 c1 (Some h) j0 j1 pending owes s goes = λ more unfinished.
        let taken : joined p s.done ++ (pending ++ more) ≡ h.taken ++ more =
        sym (ap (λ (l : List ℕ). l ++ more) s.noted.0 ∙ append_assoc (joined p s.done) pending more) in
        goes (reading more h) (record {
          messages = s.done;
          whole = subst (λ (l : List ℕ). f.AreWhole l s.done) taken (laws.whole s.done (pending ++ more) s.whole unfinished);
          answers = s.answers;
          answered = s.answered;
          written = s.noted.1;
        })

    -- the stream of which these bytes were read, and what is left of it
    stream_of : (r0 r1 r2 : Option (List ℕ)) (stream taken read : List ℕ) → Consumes r0 r1 taken → Consumes r1 r2 read → r0 ≡ Some stream
        → (rest : List ℕ) × (stream ≡ (taken ++ read) ++ rest) × (r2 ≡ Some rest)
    stream_of r0 r1 r2 stream taken read first then known =
        Consumes-Some stream r2 (taken ++ read) (subst (λ (o : Option (List ℕ)). Consumes o r2 (taken ++ read)) known (Consumes-trans r0 r1 r2 taken read first then))

    -- a stream of which nothing is left
    whole_stream : (r0 r1 r2 : Option (List ℕ)) (done : List (List ℕ)) (old read stream : List ℕ) → Consumes r0 r1 (joined p done ++ old) → Consumes r1 r2 read
        → IsAtEnd r2 → All p.IsMessage done → r0 ≡ Some stream → IsParted p stream done (old ++ read) × (r2 ≡ Some [])
    whole_stream r0 r1 r2 done old read stream first then end whole knows =
        let known = stream_of r0 r1 r2 stream (joined p done ++ old) read first then knows in
        let none : known.0 ≡ [] = rest_at_end r2 known.0 known.2 end in (
          record {
            parted = known.1 ∙ ap (λ (l : List ℕ). ((joined p done ++ old) ++ read) ++ l) none ∙ append-nil ((joined p done ++ old) ++ read)
                ∙ append_assoc (joined p done) old read;
            whole = whole;
          },
          known.2 ∙ ap Some none,
        )

    all_of : (r0 r1 r2 c0 c1 : Option (List ℕ)) (h k : Option History) (j0 j1 : Option (List N)) (old stream : List ℕ) (last : List (List ℕ)) (s : Serves f p r0 r1 c0 c1 h j0 j1 old)
        → EndsBy p r1 r2 h k old last → r0 ≡ Some stream → AreAll p stream (s.done ++ last)
    all_of r0 r1 r2 c0 c1 h k j0 j1 old stream last s e knows = record {
      done = s.done;
      rest = old ++ e.read;
      parted = (whole_stream r0 r1 r2 s.done old e.read stream s.consumed e.reads.consumed e.at_end s.whole knows).0;
      last = last;
      ending = e.ending;
      all = refl;
    }

    -- the client's bytes ended, and what stands behind the ended messages was answered and noted
    pub Serves-end : (r0 r1 r2 c0 c1 c2 c3 : Option (List ℕ)) (h k : Option History) (j0 j1 j2 : Option (List N)) (old stream held : List ℕ)
        (last : List (List ℕ)) (given : List (A × N)) → Serves f p r0 r1 c0 c1 h j0 j1 old → EndsBy p r1 r2 h k old last → AreAnswers f last given
        → c2 ≡ c1 → Appends c2 c3 (bytes_answering f given) → Adds (notes_on given) j1 j2
        → r0 ≡ Some stream → c0 ≡ Some held → NotesAll f p stream held c3 j0 j2
    Serves-end r0 r1 r2 c0 c1 c2 c3 h k j0 j1 j2 old stream held last given s e are quiet written noted knows holds = record {
      messages = s.done ++ last;
      all = all_of r0 r1 r2 c0 c1 h k j0 j1 old stream last s e knows;
      noted = record {
        answers = s.answers ++ given;
        answered = answers-append f s.done last s.answers given s.answered are;
        written = appended_of c0 c3 held (bytes_answering f s.answers ++ bytes_answering f given)
            (Appends-trans c0 c1 c3 (bytes_answering f s.answers) (bytes_answering f given) s.appended
            (subst (λ (o : Option (List ℕ)). Appends o c3 (bytes_answering f given)) quiet written)) holds
            ∙ ap (λ (l : List ℕ). Some (held ++ l))
            (sym (append-nil (bytes_answering f (s.answers ++ given)) ∙ flat_map-append f.bytes_of s.answers given));
        noted = noted-more j0 j1 j2 s.answers given s.added noted;
      };
    }

    pub Serves-last : (r0 r1 r2 c0 c1 c2 c3 : Option (List ℕ)) (h k : Option History) (j0 j1 j2 j3 : Option (List N)) (old stream held message : List ℕ)
        (a : A × N) → Serves f p r0 r1 c0 c1 h j0 j1 old → EndsBy p r1 r2 h k old (message ∷ []) → f.IsAnswer message a
        → c2 ≡ c1 → Appends c2 c3 (f.bytes_of a) → j2 ≡ j1 → Adds (a.1 ∷ []) j2 j3
        → r0 ≡ Some stream → c0 ≡ Some held → NotesAll f p stream held c3 j0 j3
    Serves-last r0 r1 r2 c0 c1 c2 c3 h k j0 j1 j2 j3 old stream held message a s e answers quiet written same noted knows holds =
        Serves-end r0 r1 r2 c0 c1 c2 c3 h k j0 j1 j3 old stream held (message ∷ []) (a ∷ []) s e (answers, tt) quiet
        (subst (λ (l : List ℕ). Appends c2 c3 l) (sym (append-nil (f.bytes_of a))) written)
        (subst (λ (o : Option (List N)). Adds (a.1 ∷ []) o j3) same noted) knows holds

    -- no more was read in a message
    pub Serves-stops : (r0 r1 r2 c0 c1 c2 : Option (List ℕ)) (h : Option History) (j0 j1 j2 : Option (List N)) (failed fails : ℕ) (old stream held : List ℕ)
        → Serves f p r0 r1 c0 c1 h j0 j1 old → StopsIn p r1 r2 failed fails old → c2 ≡ c1 → j2 ≡ j1 → r0 ≡ Some stream → c0 ≡ Some held
        → NotesWhole f stream held r2 c2 j0 j2
    Serves-stops r0 r1 r2 c0 c1 c2 h j0 j1 j2 failed fails old stream held s stops quiet same knows holds =
        let known = stream_of r0 r1 r2 stream (joined p s.done ++ old) stops.read s.consumed stops.consumed knows in
        record {
          taken = (joined p s.done ++ old) ++ stops.read;
          rest = known.0;
          parted = known.1;
          left = known.2;
          messages = s.done;
          whole = subst (λ (l : List ℕ). f.AreWhole l s.done) (sym (append_assoc (joined p s.done) old stops.read))
              (laws.whole s.done (old ++ stops.read) s.whole stops.unfinished);
          noted = record {
            answers = s.answers;
            answered = s.answered;
            written = quiet ∙ appended_of c0 c1 held (bytes_answering f s.answers) s.appended holds
                ∙ ap (λ (l : List ℕ). Some (held ++ l)) (sym (append-nil (bytes_answering f s.answers)));
            noted = Adds-same j0 j1 j2 (notes_on s.answers) s.added same;
          };
        }

    inside : (r0 r1 r2 : Option (List ℕ)) (done : List (List ℕ)) (old read : List ℕ) → Consumes r0 r1 (joined p done ++ old) → Consumes r1 r2 read
        → IsAtEnd r2 → All p.IsMessage done → IfSome r0 (EndsWith p (old ++ read) r2)
    inside None r1 r2 done old read first then end whole = tt
    inside (Some stream) r1 r2 done old read first then end whole =
        let all = whole_stream (Some stream) r1 r2 done old read stream first then end whole refl in
        record { done = done; parted = all.0; nothing = all.1 }

    -- why no more was read
    pub Serves-why : (r0 r1 r2 c0 c1 : Option (List ℕ)) (h : Option History) (j0 j1 : Option (List N)) (first failed fails : ℕ) (old : List ℕ)
        → Serves f p r0 r1 c0 c1 h j0 j1 old → failed ≡ first → StopsIn p r1 r2 failed fails old → StopsReading p first fails r0 r2
    Serves-why r0 r1 r2 c0 c1 h j0 j1 first failed fails old s same stops = elim stops.why [
      | inl broke ↦ inl (subst (λ (n : ℕ). HasFailed n fails) same broke)
      | inr ended ↦ inr (ended.0 ∙ same, old ++ stops.read, ended.2, inside r0 r1 r2 s.done old stops.read s.consumed stops.consumed ended.1 s.whole)
    ]

    -- a prefix of the last answer was written
    cut_short : (r0 r1 c0 c1 c2 c3 : Option (List ℕ)) (h : Option History) (j0 j1 j2 : Option (List N)) (old message held : List ℕ) (a : A × N)
        (s : Serves f p r0 r1 c0 c1 h j0 j1 old) → f.IsAnswer message a → c2 ≡ c1 → AppendsFront c2 c3 (f.bytes_of a) → j2 ≡ j1 → c0 ≡ Some held
        → NotesShort f s.done message held c3 j0 j2
    cut_short r0 r1 c0 c1 c2 c3 h j0 j1 j2 old message held a s answers quiet cut same holds = record {
      answer = a;
      answers_next = answers;
      front = cut.0;
      short = cut.1;
      noted = record {
        answers = s.answers;
        answered = s.answered;
        written = appended_of c0 c3 held (bytes_answering f s.answers ++ take cut.0 (f.bytes_of a))
            (Appends-trans c0 c1 c3 (bytes_answering f s.answers) (take cut.0 (f.bytes_of a)) s.appended
            (subst (λ (o : Option (List ℕ)). Appends o c3 (take cut.0 (f.bytes_of a))) quiet cut.2)) holds;
        noted = Adds-same j0 j1 j2 (notes_on s.answers) s.added same;
      };
    }

    pub Serves-cut_last : (r0 r1 r2 c0 c1 c2 c3 : Option (List ℕ)) (h k : Option History) (j0 j1 j2 : Option (List N)) (old stream held message : List ℕ)
        (a : A × N) → Serves f p r0 r1 c0 c1 h j0 j1 old → EndsBy p r1 r2 h k old (message ∷ []) → f.IsAnswer message a
        → c2 ≡ c1 → AppendsFront c2 c3 (f.bytes_of a) → j2 ≡ j1 → r0 ≡ Some stream → c0 ≡ Some held → NotesSome f p stream held c3 j0 j2
    Serves-cut_last r0 r1 r2 c0 c1 c2 c3 h k j0 j1 j2 old stream held message a s e answers quiet cut same knows holds = record {
      messages = s.done;
      next = message;
      begun = inr (all_of r0 r1 r2 c0 c1 h k j0 j1 old stream (message ∷ []) s e knows);
      short = cut_short r0 r1 c0 c1 c2 c3 h j0 j1 j2 old message held a s answers quiet cut same holds;
    }

    module _ {M : Type 0} (IsKept : List ℕ → M → Type 0) where
      taken_more : (done : List (List ℕ)) (old read message new : List ℕ) → old ++ read ≡ p.with_end message ++ new
          → (joined p done ++ old) ++ read ≡ joined p (done ++ message ∷ []) ++ new
      taken_more done old read message new is =
          append_assoc (joined p done) old read ∙ ap (λ (l : List ℕ). joined p done ++ l) is ∙ sym (joined-push done message new)

      -- a message more was taken and answered
      pub Serves-more : (r0 r1 r2 r3 c0 c1 c2 c3 : Option (List ℕ)) (h k m : Option History) (j0 j1 j2 j3 : Option (List N)) (old new : List ℕ) (kept : M)
          (a : A × N) → Serves f p r0 r1 c0 c1 h j0 j1 old → (t : TakesMessage p IsKept r1 r2 h k old new kept) → f.IsAnswer t.message a
          → c2 ≡ c1 → Appends c2 c3 (f.bytes_of a) → m ≡ option_map (writing (f.bytes_of a)) k → r3 ≡ r2
          → j2 ≡ j1 → Adds (a.1 ∷ []) j2 j3 → Serves f p r0 r3 c0 c3 m j0 j3 new
      Serves-more r0 r1 r2 r3 c0 c1 c2 c3 h k m j0 j1 j2 j3 old new kept a s t answers quiet written noted same still added =
          let read = t.takes.read in
          let message = t.message in
          let all : (joined p s.done ++ old) ++ read ≡ joined p (s.done ++ message ∷ []) ++ new = taken_more s.done old read message new t.takes.parted in
          let told : bytes_answering f s.answers ++ f.bytes_of a ≡ bytes_answering f (s.answers ++ a ∷ []) = one_more f s.answers a in
          record {
            done = s.done ++ message ∷ [];
            answers = s.answers ++ a ∷ [];
            consumed = subst (λ (o : Option (List ℕ)). Consumes r0 o (joined p (s.done ++ message ∷ []) ++ new)) (sym same)
                (subst (λ (l : List ℕ). Consumes r0 r2 l) all (Consumes-trans r0 r1 r2 (joined p s.done ++ old) read s.consumed t.takes.reads.consumed));
            whole = All-push p.IsMessage s.done message s.whole t.whole;
            answered = answers-append f s.done (message ∷ []) s.answers (a ∷ []) s.answered (answers, tt);
            appended = subst (λ (l : List ℕ). Appends c0 c3 l) told
                (Appends-trans c0 c1 c3 (bytes_answering f s.answers) (f.bytes_of a) s.appended (subst (λ (o : Option (List ℕ)). Appends o c3 (f.bytes_of a)) quiet written));
            noted = subst (λ (l : List ℕ). IfSome m (IsAllOf l (bytes_answering f (s.answers ++ a ∷ [])))) all
                (subst (λ (l : List ℕ). IfSome m (IsAllOf ((joined p s.done ++ old) ++ read) l)) told
                (IsAllOf-more h k m read (f.bytes_of a) (joined p s.done ++ old) (bytes_answering f s.answers) s.noted t.takes.reads.noted noted));
            added = noted-more j0 j2 j3 s.answers (a ∷ []) (Adds-same j0 j1 j2 (notes_on s.answers) s.added still) added;
          }

      pub Serves-cut : (r0 r1 r2 c0 c1 c2 c3 : Option (List ℕ)) (h k : Option History) (j0 j1 j2 : Option (List N)) (old new stream held : List ℕ) (kept : M)
          (a : A × N) → Serves f p r0 r1 c0 c1 h j0 j1 old → (t : TakesMessage p IsKept r1 r2 h k old new kept) → f.IsAnswer t.message a
          → c2 ≡ c1 → AppendsFront c2 c3 (f.bytes_of a) → j2 ≡ j1 → r0 ≡ Some stream → c0 ≡ Some held → NotesSome f p stream held c3 j0 j2
      Serves-cut r0 r1 r2 c0 c1 c2 c3 h k j0 j1 j2 old new stream held kept a s t answers quiet cut same knows holds =
          let read = t.takes.read in
          let known = stream_of r0 r1 r2 stream (joined p s.done ++ old) read s.consumed t.takes.reads.consumed knows in
          let messages = s.done ++ t.message ∷ [] in
          record {
            messages = s.done;
            next = t.message;
            begun = inl (
              new ++ known.0,
              record {
                parted = known.1 ∙ ap (λ (l : List ℕ). l ++ known.0) (taken_more s.done old read t.message new t.takes.parted)
                    ∙ append_assoc (joined p messages) new known.0;
                whole = All-push p.IsMessage s.done t.message s.whole t.whole;
              },
            );
            short = cut_short r0 r1 c0 c1 c2 c3 h j0 j1 j2 old t.message held a s answers quiet cut same holds;
          }

-- what the program ends with
pub ends : {U : Type 0} (r : Result U StreamFault) (e : Ending) (Whole Broken Cut : List ℕ → List ℕ → Type 0) (Stops : Type 0)
    (stream held : Option (List ℕ)) (rf rf' wf wf' : ℕ)
    → MatchResult r (λ _. IsQuiet 0 e) (λ f. IsComplaint f e)
    → ((s h : List ℕ) → stream ≡ Some s → held ≡ Some h → OnOk r (Whole s h))
    → ((s h : List ℕ) → stream ≡ Some s → held ≡ Some h → r ≡ Err ReadFault → Broken s h)
    → ((s h : List ℕ) → stream ≡ Some s → held ≡ Some h → r ≡ Err WriteFault → Cut s h)
    → (r ≡ Err ReadFault → Stops × (wf' ≡ wf))
    → (r ≡ Err WriteFault → (rf' ≡ rf) × HasFailed wf wf')
    → OnOk r ((rf' ≡ rf) × (wf' ≡ wf))
    → EndsServing Whole Broken Cut Stops stream held (rf, rf') (wf, wf') e
ends (Ok u) e Whole Broken Cut Stops stream held rf rf' wf wf' ended answered broken cut stops fails fine =
    inl (record { ended = ended; holds = answered }, fine.0, fine.1)
ends (Err ReadFault) e Whole Broken Cut Stops stream held rf rf' wf wf' ended answered broken cut stops fails fine =
    inr (inl (record { ended = ended; holds = λ s h p q. broken s h p q refl }, (stops refl).0, (stops refl).1))
ends (Err WriteFault) e Whole Broken Cut Stops stream held rf rf' wf wf' ended answered broken cut stops fails fine =
    inr (inr (record { ended = ended; holds = λ s h p q. cut s h p q refl }, (fails refl).0, (fails refl).1))
