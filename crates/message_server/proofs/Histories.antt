-- Histories after several reads or writes.
use Rattle.std.proofs.Common.{◌≡◌, ◌≤◌, ◌+◌, ℕ, List, [], ◌++◌, Option, Some, None, option_map, refl, ap, sym, ◌∙◌, subst, append_assoc, arith}
use Rattle.std.proofs.lemmas.List.{append-nil}
use Rattle.message_server.specs.History.{History, reading, writing, AddsAtMost}
use Rattle.message_server.specs.Pieces.{Reads}
use Rattle.message_server.proofs.Streams.{Consumes-trans}

-- one write and then another
pub writing-more : (h k m : Option History) (xs ys zs : List ℕ) → k ≡ option_map (writing xs) h → m ≡ option_map (writing ys) k → xs ++ ys ≡ zs
    → m ≡ option_map (writing zs) h
writing-more None k m xs ys zs first then is = then ∙ ap (λ (o : Option History). option_map (writing ys) o) first
writing-more (Some h) k m xs ys zs first then is =
    then ∙ ap (λ (o : Option History). option_map (writing ys) o) first
    ∙ ap (λ (t : List ℕ). Some (record { taken = h.taken; written = t })) (append_assoc h.written xs ys ∙ ap (λ (t : List ℕ). h.written ++ t) is)

-- no read
pub reading-none : (h : Option History) → h ≡ option_map (reading []) h
reading-none None = refl
reading-none (Some h) = ap (λ (t : List ℕ). Some (record { taken = t; written = h.written })) (sym (append-nil h.taken))

-- one read and then another
pub reading-more : (h k m : Option History) (xs ys : List ℕ) → k ≡ option_map (reading xs) h → m ≡ option_map (reading ys) k
    → m ≡ option_map (reading (xs ++ ys)) h
reading-more None k m xs ys first then = then ∙ ap (λ (o : Option History). option_map (reading ys) o) first
reading-more (Some h) k m xs ys first then =
    then ∙ ap (λ (o : Option History). option_map (reading ys) o) first
    ∙ ap (λ (t : List ℕ). Some (record { taken = t; written = h.written })) (append_assoc h.taken xs ys)

pub Reads-trans : (a b c : Option (List ℕ)) (h k m : Option History) (xs ys : List ℕ) → Reads a b h k xs → Reads b c k m ys → Reads a c h m (xs ++ ys)
Reads-trans a b c h k m xs ys first then = record {
  consumed = Consumes-trans a b c xs ys first.consumed then.consumed;
  noted = reading-more h k m xs ys first.noted then.noted;
}

-- no write
pub adds_none : (most : ℕ) (n : Option ℕ) → AddsAtMost most n n
adds_none most None = tt
adds_none most (Some n) = omega arith

-- one write more, and whether it took all
pub adds-more : (most one more : ℕ) (a b c : Option ℕ) → AddsAtMost most a b → c ≡ option_map (λ k. k + one) b → most + one ≤ more
    → AddsAtMost more a c
adds-more most one more None None c adds is fits = subst (λ (o : Option ℕ). AddsAtMost more None o) (sym is) tt
adds-more most one more None (Some k) c adds is fits = absurd adds
adds-more most one more (Some n) None c adds is fits = absurd adds
adds-more most one more (Some n) (Some k) c adds is fits =
    let before : k ≤ n + most = adds in
    let after : k + one ≤ n + more = omega (arith, before, fits) in
    subst (λ (o : Option ℕ). AddsAtMost more (Some n) o) (sym is) after
