-- Notes after more were made, and what answers with notes say of the answers alone.
use Rattle.std.proofs.Common.{◌≡◌, ◌<◌, ◌+◌, ℕ, List, [], ◌∷◌, ◌++◌, length, map, take, Option, Some, None, refl, ap, sym, ◌∙◌, subst, append_assoc, arith, length-append}
use Rattle.std.proofs.Math.Seq.{take-append-add}
use Rattle.std.proofs.lemmas.List.{append-nil}
use Rattle.std.proofs.lemmas.List.Concat.{flat_map-append}
use Rattle.message_server.specs.History.{History}
use Rattle.message_server.specs.Notes.{adding, Adds, noting, notes_on, Notes, NotesShort, NotesWhole, NotesAll, NotesSome}
use Rattle.message_server.specs.Parting.{Parting, AnswersAll, CutsSome, Laws}
use Rattle.message_server.specs.Serving.{Framing, AreAnswers, bytes_answering, Answers, BreaksOff, CutsShort, GoesBy}

-- no note
pub Adds-none : {N : Type 0} (notes : Option (List N)) → Adds [] notes notes
Adds-none None = tt
Adds-none (Some l) = ap Some (append-nil l)

pub Adds-same : {N : Type 0} (a b c : Option (List N)) (xs : List N) → Adds xs a b → c ≡ b → Adds xs a c
Adds-same {N = N} a b c xs adds same = subst (λ (o : Option (List N)). Adds xs a o) (sym same) adds

-- some notes and then others
adding-adding : {N : Type 0} (a : Option (List N)) (xs ys : List N) → adding (xs ++ ys) a ≡ adding ys (adding xs a)
adding-adding None xs ys = refl
adding-adding (Some l) xs ys = ap Some (sym (append_assoc l xs ys))

none_is_no_some : {N : Type 0} (o : Option (List N)) (l : List N) → o ≡ None → o ≡ Some l → ⊥
none_is_no_some o l none is = cc

pub Adds-more : {N : Type 0} (a b c : Option (List N)) (xs ys : List N) → Adds xs a b → Adds ys b c → Adds (xs ++ ys) a c
Adds-more a b None xs ys first then = tt
Adds-more {N = N} a None (Some l) xs ys first then =
    let none : Option (List N) = None in
    absurd (none_is_no_some (adding ys none) l refl then)
Adds-more {N = N} a (Some m) (Some l) xs ys first then = adding-adding a xs ys ∙ ap (λ (o : Option (List N)). adding ys o) first ∙ then

pub notes_on-append : {A N : Type 0} (given more : List (A × N)) → notes_on (given ++ more) ≡ notes_on given ++ notes_on more
notes_on-append [] more = refl
notes_on-append {N = N} (a ∷ given) more = ap (λ (l : List N). a.1 ∷ l) (notes_on-append given more)

-- the answers to some messages and then to others
pub answers-append : {A : Type 0} (f : Framing A) (ms more : List (List ℕ)) (given others : List A) → AreAnswers f ms given → AreAnswers f more others
    → AreAnswers f (ms ++ more) (given ++ others)
answers-append f [] more [] others first then = then
answers-append f [] more (a ∷ given) others first then = absurd first
answers-append f (m ∷ ms) more [] others first then = absurd first
answers-append f (m ∷ ms) more (a ∷ given) others first then = (first.0, answers-append f ms more given others first.1 then)

-- the answers without their notes
module _ {A N : Type 0} (f : Framing A) (IsNote : List ℕ → A → N → Type 0) where
  abbrev alone : List (A × N) → List A
  alone answers = map (λ answer. answer.0) answers

  answers-alone : (messages : List (List ℕ)) (answers : List (A × N)) → AreAnswers (noting f IsNote) messages answers → AreAnswers f messages (alone answers)
  answers-alone [] [] are = tt
  answers-alone [] (a ∷ answers) are = absurd are
  answers-alone (m ∷ messages) [] are = absurd are
  answers-alone (m ∷ messages) (a ∷ answers) are = (are.0.0, answers-alone messages answers are.1)

  bytes-alone : (answers : List (A × N)) → bytes_answering (noting f IsNote) answers ≡ bytes_answering f (alone answers)
  bytes-alone [] = refl
  bytes-alone (a ∷ answers) = ap (λ (l : List ℕ). f.bytes_of a.0 ++ l) (bytes-alone answers)

  pub Answers-alone : (messages : List (List ℕ)) (held : List ℕ) (c : Option (List ℕ)) (n m : Option (List N)) → Notes (noting f IsNote) messages held [] c n m
      → Answers f messages held c
  Answers-alone messages held c n m notes = record {
    answers = alone notes.answers;
    answered = answers-alone messages notes.answers notes.answered;
    written = notes.written
        ∙ ap (λ (l : List ℕ). Some (held ++ l)) (append-nil (bytes_answering (noting f IsNote) notes.answers) ∙ bytes-alone notes.answers);
  }

  pub BreaksOff-alone : (stream held : List ℕ) (r c : Option (List ℕ)) (n m : Option (List N)) → NotesWhole (noting f IsNote) stream held r c n m
      → BreaksOff f stream held r c
  BreaksOff-alone stream held r c n m w = record {
    taken = w.taken;
    rest = w.rest;
    parted = w.parted;
    left = w.left;
    messages = w.messages;
    whole = w.whole;
    answered = Answers-alone w.messages held c n m w.noted;
  }

  pub AnswersAll-alone : (p : Parting) (stream held : List ℕ) (c : Option (List ℕ)) (n m : Option (List N)) → NotesAll (noting f IsNote) p stream held c n m
      → AnswersAll p f stream held c
  AnswersAll-alone p stream held c n m all = record {
    messages = all.messages;
    all = all.all;
    answered = Answers-alone all.messages held c n m all.noted;
  }

  CutsShort-alone : (messages : List (List ℕ)) (next held : List ℕ) (c : Option (List ℕ)) (n m : Option (List N))
      → NotesShort (noting f IsNote) messages next held c n m → CutsShort f (messages ++ next ∷ []) held c
  CutsShort-alone messages next held c n m s =
      let before = bytes_answering f (alone s.noted.answers) in
      let last = f.bytes_of s.answer.0 in
      let told : bytes_answering f (alone s.noted.answers ++ s.answer.0 ∷ []) ≡ before ++ last =
      flat_map-append f.bytes_of (alone s.noted.answers) (s.answer.0 ∷ []) ∙ ap (λ (l : List ℕ). before ++ l) (append-nil last) in
      let within : s.front < length last = s.short in
      record {
        answers = alone s.noted.answers ++ s.answer.0 ∷ [];
        answered = answers-append f messages (next ∷ []) (alone s.noted.answers) (s.answer.0 ∷ [])
            (answers-alone messages s.noted.answers s.noted.answered) (s.answers_next.0, tt);
        front = length before + s.front;
        short = omega (arith, within, ap length told, length-append before last);
        written = s.noted.written
            ∙ ap (λ (l : List ℕ). Some (held ++ l))
            (ap (λ (l : List ℕ). l ++ take s.front last) (bytes-alone s.noted.answers)
            ∙ sym (ap (λ (l : List ℕ). take (length before + s.front) l) told ∙ take-append-add before last s.front));
      }

  pub CutsSome-alone : (p : Parting) (stream held : List ℕ) (c : Option (List ℕ)) (n m : Option (List N)) → NotesSome (noting f IsNote) p stream held c n m
      → CutsSome p f stream held c
  CutsSome-alone p stream held c n m s = record {
    messages = s.messages ++ s.next ∷ [];
    begun = s.begun;
    short = CutsShort-alone s.messages s.next held c n m s.short;
  }

  -- a client is owed no notes
  pub GoesBy-noting : (owes : History → Type 0) → GoesBy f owes → GoesBy (noting f IsNote) owes
  GoesBy-noting owes goes = λ h none. goes h (record {
    messages = none.messages;
    whole = none.whole;
    answers = alone none.answers;
    answered = answers-alone none.messages none.answers none.answered;
    written = none.written ∙ bytes-alone none.answers;
  })

  pub Laws-noting : (p : Parting) → Laws p f → Laws p (noting f IsNote)
  Laws-noting p laws = record { whole = laws.whole; one_way = laws.one_way }
