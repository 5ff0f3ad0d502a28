-- The first of the seats that are owed, and the one behind it.
use Rattle.std.proofs.Common.{◌≡◌, ◌≢◌, ℕ, Some, None, List, [], ◌∷◌, ◌++◌, sym, ap, refl, ◌∙◌}
use Rattle.std.proofs.Common.{arith, length, replicate, append-nil}
use Rattle.std.proofs.lemmas.List.{append_assoc}
use Rattle.event_word.specs.declared.event.Event.{Event}
use Rattle.event_word.specs.declared.event.Event.TheVariants.{Unpark}
use Rattle.event_word.specs.Fields.{fields_of}
use Rattle.event_count.specs.declared.view.Card.{Card}
use Rattle.event_count.specs.Gains.{first_of, behind, unparking, settling, NamesFirst}

pub first_owed : (n : ℕ) (owing : List ℕ) → Some n ≡ first_of owing → owing ≡ n ∷ behind owing
first_owed n [] e = absurd (cc)
first_owed n (seat ∷ rest) e = let same : n ≡ seat = cc in ap (λ m. m ∷ rest) (sym same)

-- a word that names nobody says that there is none
pub none_next : (waiters word : ℕ) (rest : List ℕ) → NamesFirst waiters word rest
    → (fields_of word).top ≡ 16383 → None ≡ first_of rest
none_next waiters word [] next top = refl
none_next waiters word (seat ∷ rest) next top =
    absurd (let a = next.0 in let b = next.1 in let c = next.2 in omega arith)

-- and else it names it
pub some_next : (waiters word n : ℕ) (rest : List ℕ) → NamesFirst waiters word rest
    → (fields_of word).top ≡ n → n ≢ 16383 → Some n ≡ first_of rest
some_next waiters word n [] next top ne = absurd (ne (sym top ∙ next))
some_next waiters word n (seat ∷ rest) next top ne = ap Some (sym top ∙ next.0)

-- an unpark of the first leaves as much to settle
pub settling-unparking : (c : Card) (n : ℕ) → c.owing ≡ n ∷ behind c.owing
    → settling (unparking c) ≡ settling c
settling-unparking c n owing = let u : Event = Unpark c.number in
    ap (λ es. record c { owing = []; events = es })
    (append_assoc c.events (u ∷ []) (replicate (length (behind c.owing)) u)
    ∙ ap (λ xs. c.events ++ replicate (length xs) u) (sym owing))

-- where none is owed there is nothing to settle
pub settling-none : (c : Card) → c.owing ≡ [] → settling c ≡ c
settling-none c none = let u : Event = Unpark c.number in
    (λ i. record c {
      owing = sym none i;
      events = (ap (λ xs. c.events ++ replicate (length xs) u) none
          ∙ append-nil c.events) i;
    })
