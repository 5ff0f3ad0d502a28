-- Bytes that are taken of what is pending.
use Rattle.std.proofs.Common.{◌≡◌, ◌≤◌, ◌+◌, ◌-◌, ℕ, List, [], ◌++◌, length, take, drop, Option, Some, None, IfSome, MatchOption}
use Rattle.std.proofs.Common.{ap, sym, ◌∙◌, subst, append_assoc, arith}
use Rattle.std.proofs.lemmas.List.{append-nil, take-append-drop, drop-drop, drop-take, length-take, length-take-le, take-append-le}
use Rattle.std.proofs.Math.Seq.{take-append-add}
use Rattle.message_server.specs.History.{History}
use Rattle.message_server.specs.Pieces.{OwesNothingWhile, Reads, Takes, FailsIn}
use Rattle.message_server.proofs.Histories.{reading-none, Reads-trans}
use Rattle.message_server.proofs.Streams.{Consumes-none, Consumes-trans}

-- what is so of a value that is there
pub at_some : {A : Type 0} (o : Option A) (x : A) (N : Type 0) (S : A → Type 0) → o ≡ Some x → MatchOption o N S → S x
at_some {A = A} o x N S is holds = subst (λ (p : Option A). MatchOption p N S) is holds

-- what is pending once some of it is passed over
pub pending-skip : (bytes : List ℕ) (start end count : ℕ) → count ≤ length (take (end - start) (drop start bytes))
    → take (end - (start + count)) (drop (start + count) bytes) ≡ drop count (take (end - start) (drop start bytes))
pending-skip bytes start end count within =
    let sum : end - start ≡ count + (end - (start + count)) = omega (arith, within, length-take (end - start) (drop start bytes)) in
    ap (λ (l : List ℕ). take (end - (start + count)) l) (sym (drop-drop count start bytes))
    ∙ sym (drop-take count (end - (start + count)) (drop start bytes))
    ∙ ap (λ (n : ℕ). drop count (take n (drop start bytes))) (sym sum)

-- what was read stands behind it
pub pending-read : (bytes new post : List ℕ) (start end count : ℕ) → start ≡ 0 → end ≤ length bytes → count ≤ length new
    → take ((end + count) - start) (drop start (take end bytes ++ (new ++ post))) ≡ take (end - start) (drop start bytes) ++ take count new
pending-read bytes new post start end count first within some =
    let len : length (take end bytes) ≡ end = length-take-le end bytes within in
    let sum : (end + count) - start ≡ length (take end bytes) + count = omega arith in
    let rest : end - start ≡ end = omega arith in
    ap (λ (n : ℕ). take ((end + count) - start) (drop n (take end bytes ++ (new ++ post)))) first
    ∙ ap (λ (n : ℕ). take n (take end bytes ++ (new ++ post))) sum
    ∙ take-append-add (take end bytes) (new ++ post) count
    ∙ ap (λ (l : List ℕ). take end bytes ++ l) (take-append-le count new post some)
    ∙ ap (λ (n : ℕ). take n bytes ++ take count new) (sym rest)
    ∙ ap (λ (n : ℕ). take (end - start) (drop n bytes) ++ take count new) (sym first)

-- nothing yet
pub Takes-none : (a : Option (List ℕ)) (h : Option History) (old : List ℕ) → Takes a a h h old old []
Takes-none a h old = record {
  read = [];
  reads = record { consumed = Consumes-none a; noted = reading-none h };
  parted = append-nil old;
}

-- some bytes and then others
pub Takes-then : (a b c : Option (List ℕ)) (h k m : Option History) (old mid new xs ys : List ℕ)
    → Takes a b h k old mid xs → Takes b c k m mid new ys → Takes a c h m old new (xs ++ ys)
Takes-then a b c h k m old mid new xs ys first then = record {
  read = first.read ++ then.read;
  reads = Reads-trans a b c h k m first.read then.read first.reads then.reads;
  parted = sym (append_assoc old first.read then.read)
      ∙ ap (λ (l : List ℕ). l ++ then.read) first.parted
      ∙ append_assoc xs mid then.read
      ∙ ap (λ (l : List ℕ). xs ++ l) then.parted
      ∙ sym (append_assoc xs ys new);
}

-- some of what is pending
pub Takes-more : (a b : Option (List ℕ)) (h k : Option History) (old mid new got piece : List ℕ)
    → Takes a b h k old mid got → mid ≡ piece ++ new → Takes a b h k old new (got ++ piece)
Takes-more a b h k old mid new got piece t is = record {
  read = t.read;
  reads = t.reads;
  parted = t.parted ∙ ap (λ (l : List ℕ). got ++ l) is ∙ sym (append_assoc got piece new);
}

-- more is pending
pub Takes-wait : (a b c : Option (List ℕ)) (h k m : Option History) (old mid new got : List ℕ)
    → Takes a b h k old mid got → Takes b c k m mid new [] → Takes a c h m old new got
Takes-wait a b c h k m old mid new got t w =
    subst (λ (l : List ℕ). Takes a c h m old new l) (append-nil got) (Takes-then a b c h k m old mid new got [] t w)

-- some of it was moved
pub Takes-move : (a b : Option (List ℕ)) (h k : Option History) (old mid new got now : List ℕ) (count : ℕ)
    → Takes a b h k old mid got → new ≡ drop count mid → now ≡ got ++ take count mid → Takes a b h k old new now
Takes-move a b h k old mid new got now count t left is =
    subst (λ (l : List ℕ). Takes a b h k old new l) (sym is)
    (Takes-more a b h k old mid new got (take count mid) t
    (sym (take-append-drop count mid) ∙ ap (λ (l : List ℕ). take count mid ++ l) (sym left)))

-- what was read stands behind what was pending
pub Takes-read : (a b : Option (List ℕ)) (h k : Option History) (old new read : List ℕ) → Reads a b h k read → new ≡ old ++ read → Takes a b h k old new []
Takes-read a b h k old new read reads behind = record {
  read = read;
  reads = reads;
  parted = sym behind;
}

-- what is owed after some bytes were taken
pub owes-on : (P Q : List ℕ → Type 0) (owes : History → Type 0) (a b : Option (List ℕ)) (h k : Option History) (old mid got : List ℕ)
    → IfSome h (OwesNothingWhile P owes old) → Takes a b h k old mid got → ((xs : List ℕ) → Q xs → P (got ++ xs))
    → IfSome k (OwesNothingWhile Q owes mid)
owes-on P Q owes a b None k old mid got holds t kind = subst (λ (o : Option History). IfSome o (OwesNothingWhile Q owes mid)) (sym t.reads.noted) tt
owes-on P Q owes a b (Some h) k old mid got holds t kind =
    subst (λ (o : Option History). IfSome o (OwesNothingWhile Q owes mid)) (sym t.reads.noted) (λ more is.
    let same : old ++ (t.read ++ more) ≡ got ++ (mid ++ more) =
    sym (append_assoc old t.read more) ∙ ap (λ (l : List ℕ). l ++ more) t.parted ∙ append_assoc got mid more in
    let all : h.taken ++ (t.read ++ more) ≡ (h.taken ++ t.read) ++ more = sym (append_assoc h.taken t.read more) in
    subst (λ (l : List ℕ). owes (record { taken = l; written = h.written })) all
    (holds (t.read ++ more) (subst P (sym same) (kind (mid ++ more) is))))

-- a read failed after some bytes were taken
pub FailsIn-on : (P Q : List ℕ → Type 0) (a b c : Option (List ℕ)) (h k : Option History) (old mid got : List ℕ)
    → Takes a b h k old mid got → FailsIn Q b c mid → ((xs : List ℕ) → Q xs → P (got ++ xs)) → FailsIn P a c old
FailsIn-on P Q a b c h k old mid got t f kind =
    let same : old ++ (t.read ++ f.read) ≡ got ++ (mid ++ f.read) =
    sym (append_assoc old t.read f.read) ∙ ap (λ (l : List ℕ). l ++ f.read) t.parted ∙ append_assoc got mid f.read in
    record {
      read = t.read ++ f.read;
      consumed = Consumes-trans a b c t.read f.read t.reads.consumed f.consumed;
      kind = subst P (sym same) (kind (mid ++ f.read) f.kind);
    }

-- the bytes ended after some were taken
pub FailsIn-ends : (P : List ℕ → Type 0) (a b : Option (List ℕ)) (h k : Option History) (old mid got : List ℕ)
    → Takes a b h k old mid got → P (got ++ mid) → FailsIn P a b old
FailsIn-ends P a b h k old mid got t is = record {
  read = t.read;
  consumed = t.reads.consumed;
  kind = subst P (sym t.parted) is;
}
