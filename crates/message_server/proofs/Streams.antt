-- Bytes that are taken and given piece by piece.
use Rattle.std.proofs.Common.{◌≡◌, ℕ, zero, suc, ◌<◌, Result, Ok, Err, OnErr, List, [], ◌+◌, ◌-◌, ◌++◌, length}
use Rattle.std.proofs.Common.{take, drop, Option, Some, None, OnOk, refl, ap, sym, ◌∙◌, subst, append_assoc, arith}
use Rattle.message_server.specs.Streams.{took_some, failures_after}
use Rattle.std.specs.Io.KnownBytes.{Appends, Consumes}
use Rattle.std.proofs.lemmas.List.{append-nil, take_all, length-drop}
use Rattle.std.proofs.Math.Seq.{take-add}

-- what is consumed and then more
pub Consumes-trans : (a b c : Option (List ℕ)) (xs ys : List ℕ) → Consumes a b xs → Consumes b c ys → Consumes a c (xs ++ ys)
Consumes-trans None b c xs ys h k = tt
Consumes-trans (Some all) None c xs ys h k = absurd h
Consumes-trans (Some all) (Some bs) None xs ys h k = absurd k
Consumes-trans (Some all) (Some bs) (Some cs) xs ys h k = h ∙ ap (λ t. xs ++ t) k ∙ simp append_assoc

-- nothing yet
pub Consumes-none : (a : Option (List ℕ)) → Consumes a a []
Consumes-none None = tt
Consumes-none (Some all) = refl

-- what was consumed of what is known
pub Consumes-Some : (text : List ℕ) (b : Option (List ℕ)) (xs : List ℕ) → Consumes (Some text) b xs
    → (rest : List ℕ) × (text ≡ xs ++ rest) × (b ≡ Some rest)
Consumes-Some text None xs taken = absurd taken
Consumes-Some text (Some rest) xs taken = (rest, taken, refl)

-- what is appended and then more
pub Appends-trans : (a b c : Option (List ℕ)) (xs ys : List ℕ) → Appends a b xs → Appends b c ys → Appends a c (xs ++ ys)
Appends-trans None b c xs ys h k = tt
Appends-trans (Some all) None c xs ys h k = absurd h
Appends-trans (Some all) (Some bs) None xs ys h k = absurd k
Appends-trans (Some all) (Some bs) (Some cs) xs ys h k = k ∙ ap (λ t. t ++ ys) h ∙ simp append_assoc

pub Appends-none : (a : Option (List ℕ)) → Appends a a []
Appends-none None = tt
Appends-none (Some all) = sym (append-nil all)

-- what stands behind what was held
pub Appends-Some : (held : List ℕ) (after : Option (List ℕ)) (xs : List ℕ) → Appends (Some held) after xs → after ≡ Some (held ++ xs)
Appends-Some held None xs h = absurd h
Appends-Some held (Some all) xs h = ap Some h

-- a prefix and a prefix of the rest are a longer prefix
pub take-front : (line : List ℕ) (written count : ℕ)
    → take written line ++ take count (take (length line - written) (drop written line)) ≡ take (written + count) line
take-front line written count =
    let rest : take (length line - written) (drop written line) ≡ drop written line =
    take_all (length line - written) (drop written line) (omega (arith, length-drop written line)) in
    rw (rest, take-add written count line) refl

-- a write that took bytes is no failure
pub failures_after-took_some : {E : Type 0} (r : Result ℕ E) (count n : ℕ) → r ≡ Ok count → 0 < count → failures_after (took_some r) n ≡ n
failures_after-took_some r zero n is some = absurd (omega arith)
failures_after-took_some r (suc count) n is some = ap (λ x. failures_after (took_some x) n) is

pub OnErr-any : {A E : Type 0} (r : Result A E) {X : Type 0} → X → OnErr r X
OnErr-any (Ok x) holds = tt
OnErr-any (Err e) holds = holds

pub OnOk-follows : {A E : Type 0} (r : Result A E) (X Y : Type 0) → (X → Y) → OnOk r X → OnOk r Y
OnOk-follows (Ok x) X Y then holds = then holds
OnOk-follows (Err e) X Y then holds = tt

pub OnOk-both : {A E : Type 0} (r : Result A E) (X Y Z : Type 0) → (X → Y → Z) → OnOk r X → OnOk r Y → OnOk r Z
OnOk-both (Ok x) X Y Z then first second = then first second
OnOk-both (Err e) X Y Z then first second = tt

-- what is so of this failure
pub OnErr-of : {A E : Type 0} (r : Result A E) (e : E) (X : Type 0) → r ≡ Err e → OnErr r X → X
OnErr-of {A = A} {E = E} r e X is holds = let x : OnErr {T = A} (Err e) X = subst (λ (s : Result A E). OnErr s X) is holds in x
