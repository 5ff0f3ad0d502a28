-- Facts of each card of each view.
use Rattle.std.proofs.Common.{◌≡◌, ◌≢◌, ℕ, ◌+◌, ◌<◌, nat_lt, Bool, true, false, List, [], ◌∷◌, map, length, set, ap}
use Rattle.std.proofs.Common.{sym, refl, ◌∙◌, subst, ⊎_elim, arith, All}
use Rattle.std.proofs.lemmas.Bool.{cases_eq, cases_lt, le-ltb}
use Rattle.std.proofs.lemmas.List.Elements.{All-nil, All-cons, All-head, All-tail}
use mathlib.Core.Option.{some}
use lib.ListN.{get_elem?}
use Rattle.atomic_table.proofs.Lists.{at_set}
use Rattle.event_word.specs.Lists.{one_if, times}
use Rattle.event_word.proofs.Lists.{one_if-le-one, one_if-same, one_if-other, times-one_same}
use Rattle.event_count.specs.declared.rule.RowSizes.{RowSizes}
use Rattle.event_count.specs.declared.view.Card.{Card}
use Rattle.event_count.specs.declared.view.View.{View}
use Rattle.event_count.specs.Cards.{rowless, sizes_in}
use Rattle.event_count.specs.Kinds.{IsKind}
use Rattle.event_count.specs.Known.{numbers_in, AreDealt, Each}
use Rattle.event_count.proofs.Totals.{le_total, two_le_total, total-set_at}

-- the numbers of cards
abbrev pub numbers : List Card → List ℕ
numbers cards = map (λ c. c.number) cards

-- what holds of each card of another number
pub All-apart : (P Q : Card → Type 0) (n : ℕ) (cards : List Card) → times n (numbers cards) ≡ 0
    → ((c : Card) → c.number ≢ n → P c → Q c) → All P cards → All Q cards
All-apart P Q n [] none others all = All-nil Q
All-apart P Q n (c ∷ cards) none others all = ⊎_elim
    (λ is. let one = one_if-same c.number n is in absurd (omega arith))
    (λ ne. let other = one_if-other c.number n ne in All-cons Q c cards
    (others c ne (All-head P c cards all))
    (All-apart P Q n cards (omega arith) others (All-tail P c cards all)))
    (cases_eq c.number n)

-- the view of a seat has the fact of its card
pub of_only : (P : Card → Type 0) (v : View) (c : Card) → v.cards ≡ c ∷ [] → All P v.cards → P c
of_only P v c is all = All-head P c [] (subst (λ cards. All P cards) is all)

pub All-only : (P : Card → Type 0) (c : Card) → P c → All P (c ∷ [])
All-only P c here = All-cons P c [] here (All-nil P)

-- a view in use stands once for its number
mine : (v : View) (c : Card) → v.cards ≡ c ∷ [] → times c.number (numbers_in v) ≡ 1
mine v c is =
    ap (λ cards. times c.number (numbers cards)) is ∙ times-one_same c.number c.number refl

module _ (k : RowSizes) (views : List View) (id : ℕ) (v : View) (c : Card) (dealt : AreDealt k views)
    (at : get_elem? views id ≡ some v) (is : v.cards ≡ c ∷ []) where
  -- each other view stands for other numbers
  pub not_theirs : (j : ℕ) (x : View) → j ≢ id → get_elem? views j ≡ some x
      → times c.number (numbers_in x) ≡ 0
  not_theirs j x ne there =
      let both = two_le_total (λ y. times c.number (numbers_in y)) views id j v x ne at there in
      let here = mine v c is in let sum = dealt.once c.number in
      let few = one_if-le-one (nat_lt c.number (k.waiters + k.notifiers)) in omega arith

  -- its number is a seat's
  pub is_seat : c.number < k.waiters + k.notifiers
  is_seat = ⊎_elim (λ less. less)
      (λ le. let here = mine v c is in
      let part = le_total (λ y. times c.number (numbers_in y)) views id v at in
      let sum = dealt.once c.number in
      let none = ap one_if (le-ltb c.number (k.waiters + k.notifiers) le) in absurd (omega arith))
      (cases_lt c.number (k.waiters + k.notifiers))

  -- a fact of each card, where the seat's own becomes another
  pub each_set : (P Q : Card → Type 0) (new : View) (d : Card) → new.cards ≡ d ∷ [] → Q d
      → ((x : Card) → x.number ≢ c.number → P x → Q x)
      → Each P views → Each Q (set views id new)
  each_set P Q new d cards here others all j x there = ⊎_elim
      (λ t. subst (λ y. All Q y.cards) t.1
      (subst (λ cs. All Q cs) (sym cards) (All-only Q d here)))
      (λ t. All-apart P Q c.number x.cards (not_theirs j x t.0 t.1) others (all j x t.1))
      (at_set views id j new x there)

  -- the numbers stay, where the seat's own card becomes one of its number
  pub dealt_set : (new : View) (d : Card) → new.cards ≡ d ∷ [] → d.number ≡ c.number
      → AreDealt k (set views id new)
  dealt_set new d cards number = record {
    once = λ n. let moved = total-set_at (λ y. times n (numbers_in y)) views id v new at in
        let before = ap (λ cs. times n (numbers cs)) is in
        let after = ap (λ cs. times n (numbers cs)) cards in
        let same = ap (λ m. times n (m ∷ [])) number in
        let sum = dealt.once n in omega arith;
    all = let moved = total-set_at (λ y. length y.cards) views id v new at in
        let before = ap (λ (cs : List Card). length cs) is in
        let after = ap (λ (cs : List Card). length cs) cards in
        let sum = dealt.all in omega arith;
  }

-- a count is of the kind that its type says
pub is_kind : (rowed : Bool) (k : RowSizes) → (rowed ≡ false → k ≡ rowless (sizes_in k))
    → IsKind rowed k
is_kind true k alone = tt
is_kind false k alone = ap (λ (k : RowSizes). k.rows) (alone refl)
