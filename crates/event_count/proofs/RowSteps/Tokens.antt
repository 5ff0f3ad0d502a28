-- Tickets and credits are cut off and taken in.
use Rattle.std.proofs.Common.{◌≡◌, ℕ, ◌+◌, ◌-◌, ◌<◌, List, [], ◌∷◌, ◌++◌, length, set, sym}
use Rattle.std.proofs.Common.{ap, refl, ◌∙◌, subst, ⊎_elim, arith, All}
use Rattle.std.proofs.lemmas.List.Elements.{All-nil}
use Rattle.atomic_table.specs.Table.{Splits, Joins}
use Rattle.atomic_table.proofs.Lists.{at_set, at_snoc}
use Rattle.event_word.specs.Lists.{times}
use Rattle.event_word.proofs.Lists.{total-append}
use Rattle.event_count.specs.declared.rule.RowSizes.{RowSizes}
use Rattle.event_count.specs.declared.view.Card.{Card}
use Rattle.event_count.specs.declared.view.View.{View}
use Rattle.event_count.specs.Cards.{holding, only, card_in, spent}
use Rattle.event_count.specs.Known.{numbers_in}
use Rattle.event_count.specs.Tickets.{card_credits, weight, ticket, credit}
use Rattle.event_count.specs.Shown.{ShowsWorld}
use Rattle.event_count.specs.Rows.Plays.{after_cut, cut, after_lend, with_tickets, with_credit}
use Rattle.event_count.proofs.Cards.{numbers, of_only, All-only}
use Rattle.event_count.proofs.Totals.{total-set_at}
use Rattle.event_count.proofs.Dealing.{reseated}
use Rattle.event_count.proofs.RowSteps.Counting.{counted_split, counted_join}

-- the first of some views
abbrev pub the_first : List View → View
the_first [] = spent
the_first (v ∷ vs) = v

-- a view without cards is cut off one in use, whose card changes in its credits alone
module _ (k : RowSizes) (id : ℕ) (v left right : View) (c : Card) (n : ℕ)
    (is : v.cards ≡ c ∷ []) (keeps : left.cards ≡ record c { credits = n } ∷ [])
    (none : right.cards ≡ []) (same : weight left + weight right ≡ weight v)
    (each_row : (row : ℕ) → times row left.tickets + times row right.tickets ≡ times row v.tickets)
  where
    pub cut_off : Splits (ShowsWorld k) id v left right
    cut_off s shows at =
        let views = set s.views id left in
        reseated k s (views ++ right ∷ [])
        (λ P credits each j x there. ⊎_elim
        (λ t. ⊎_elim
        (λ here. subst (λ y. All P y.cards) here.1 (subst (λ cs. All P cs) (sym keeps)
        (All-only P (record c { credits = n }) (credits c n (of_only P v c is (each id v at))))))
        (λ other. each j x other.1)
        (at_set s.views id j left x t))
        (λ e. subst (λ y. All P y.cards) e (subst (λ cs. All P cs) (sym none) (All-nil P)))
        (at_snoc views right x j there))
        (λ deals. record {
          once = λ m. let f : View → ℕ = λ y. times m (numbers_in y) in
              let moved = total-set_at f s.views id v left at in
              let longer = total-append f views (right ∷ []) in
              let a = ap (λ cs. times m (numbers cs)) is in
              let b = ap (λ cs. times m (numbers cs)) keeps in
              let d = ap (λ cs. times m (numbers cs)) none in let sum = deals.once m in omega arith;
          all = let f : View → ℕ = λ y. length y.cards in
              let moved = total-set_at f s.views id v left at in
              let longer = total-append f views (right ∷ []) in
              let a = ap (λ (cs : List Card). length cs) is in
              let b = ap (λ (cs : List Card). length cs) keeps in
              let d = ap (λ (cs : List Card). length cs) none in let sum = deals.all in omega arith;
        })
        (λ all bank w counts. counted_split all bank w s.views counts id v left right at same each_row)
        shows

-- a view without cards is taken in by one in use, whose card changes in its credits alone
module _ (k : RowSizes) (id : ℕ) (v : View) (other : ℕ) (x both : View) (c : Card) (n : ℕ)
    (is : v.cards ≡ c ∷ []) (keeps : both.cards ≡ record c { credits = n } ∷ [])
    (none : x.cards ≡ []) (same : weight both ≡ weight v + weight x)
    (each_row : (row : ℕ) → times row both.tickets ≡ times row v.tickets + times row x.tickets)
  where
    pub taken_in : Joins (ShowsWorld k) id v other x both spent
    taken_in s shows at ne at' =
        let views = set s.views id both in
        reseated k s (set views other spent)
        (λ P credits each j y there. ⊎_elim
        (λ here. subst (λ z. All P z.cards) here.1 (All-nil P))
        (λ t. ⊎_elim
        (λ here. subst (λ z. All P z.cards) here.1 (subst (λ cs. All P cs) (sym keeps)
        (All-only P (record c { credits = n }) (credits c n (of_only P v c is (each id v at))))))
        (λ old. each j y old.1)
        (at_set s.views id j both y t.1))
        (at_set views other j spent y there))
        (λ deals. record {
          once = λ m. let f : View → ℕ = λ y. times m (numbers_in y) in
              let moved = total-set_at f s.views id v both at in
              let gone = total-set_at f views other x spent at' in
              let a = ap (λ cs. times m (numbers cs)) is in
              let b = ap (λ cs. times m (numbers cs)) keeps in
              let d = ap (λ cs. times m (numbers cs)) none in let sum = deals.once m in omega arith;
          all = let f : View → ℕ = λ y. length y.cards in
              let moved = total-set_at f s.views id v both at in
              let gone = total-set_at f views other x spent at' in
              let a = ap (λ (cs : List Card). length cs) is in
              let b = ap (λ (cs : List Card). length cs) keeps in
              let d = ap (λ (cs : List Card). length cs) none in let sum = deals.all in omega arith;
        })
        (λ all bank w counts. counted_join all bank w s.views counts id v other x both at at' same each_row)
        shows

-- a ticket is cut off
pub cut_keeps : (k : RowSizes) (id : ℕ) (v : View) (c : Card) (row : ℕ) → v ≡ holding (row ∷ []) c
    → Splits (ShowsWorld k) id v (after_cut v) (cut v)
cut_keeps k id v c row is =
    let cards = ap (λ (x : View). x.cards) is in
    cut_off k id v (after_cut v) (cut v) c c.credits cards cards refl
    (omega arith) (λ m. omega arith)

-- a credit is cut off
pub lend_keeps : (k : RowSizes) (id : ℕ) (v : View) → v ≡ only (card_in v)
    → 0 < (card_in v).credits → Splits (ShowsWorld k) id v (after_lend v) credit
lend_keeps k id v is some_left =
    let c = card_in v in
    cut_off k id v (after_lend v) credit c (c.credits - 1) (ap (λ (x : View). x.cards) is) refl refl
    (let whole = ap weight is in omega arith)
    (λ m. let none_here = ap (λ (x : View). times m x.tickets) is in omega arith)

-- a ticket is taken in
pub take_keeps : (k : RowSizes) (id : ℕ) (v : View) (other : ℕ) (x : View) (row : ℕ)
    → v ≡ only (card_in v) → x ≡ ticket row
    → Joins (ShowsWorld k) id v other x (with_tickets v x) spent
take_keeps k id v other x row is ticket_is =
    let c = card_in v in let cards = ap (λ (y : View). y.cards) is in
    taken_in k id v other x (with_tickets v x) c c.credits cards cards
    (ap (λ (y : View). y.cards) ticket_is)
    (let a = ap (λ (y : View). length y.tickets) is in
    let b = ap (λ (y : View). y.credits) ticket_is in
    let d = ap (λ (y : View). card_credits y.cards) ticket_is in omega arith)
    (λ m. let none_here = ap (λ (y : View). times m y.tickets) is in omega arith)

-- a credit is taken in
pub accept_keeps : (k : RowSizes) (id : ℕ) (v : View) (other : ℕ) (x : View)
    → v ≡ only (card_in v) → x ≡ credit
    → Joins (ShowsWorld k) id v other x (with_credit v x) spent
accept_keeps k id v other x is credit_is =
    let c = card_in v in
    taken_in k id v other x (with_credit v x) c (c.credits + 1) (ap (λ (y : View). y.cards) is) refl
    (ap (λ (y : View). y.cards) credit_is)
    (let a = ap weight is in let b = ap weight credit_is in omega arith)
    (λ m. let a = ap (λ (y : View). times m y.tickets) is in
    let b = ap (λ (y : View). times m y.tickets) credit_is in omega arith)

-- what a seat is that has taken in a ticket
module _ (v w m : View) (row : ℕ) (alone : v ≡ only (card_in v)) (one : w ≡ ticket row)
    (is : m ≡ with_tickets v w) where
  held : m ≡ holding (row ∷ []) (card_in v)
  held = is ∙ (λ i. with_tickets (alone i) (one i))

  pub taken_card : card_in m ≡ card_in v
  taken_card = ap card_in held

  pub taken_view : m ≡ holding (row ∷ []) (card_in m)
  taken_view = held ∙ ap (λ c. holding (row ∷ []) c) (sym taken_card)
