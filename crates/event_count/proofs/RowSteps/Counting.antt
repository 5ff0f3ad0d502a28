-- Tickets and credits, as views change.
use Rattle.std.proofs.Common.{◌≡◌, ℕ, zero, suc, ◌+◌, ◌≤◌, List, [], ◌∷◌, ◌++◌, set, sym, ap}
use Rattle.std.proofs.Common.{refl, arith, reverse, slice_index}
use Rattle.std.proofs.lemmas.List.{reverse-append}
use mathlib.Core.Option.{some, some-injective, some-ne-none}
use lib.ListN.{get_elem?}
use Rattle.event_word.specs.Lists.{total, times}
use Rattle.event_word.specs.World.{World, length_of}
use Rattle.event_word.proofs.Lists.{total-append, times-le-length}
use Rattle.event_count.specs.declared.view.Card.{Card}
use Rattle.event_count.specs.declared.view.View.{View}
use Rattle.event_count.specs.Cards.{only, spent}
use Rattle.event_count.specs.Tickets.{card_credits, weight, AreCounted, tickets_over}
use Rattle.event_count.proofs.Totals.{total-set_at}

module _ (all bank : ℕ) (w u : World) (views : List View) (id : ℕ) (v : View)
    (at : get_elem? views id ≡ some v) (counts : AreCounted all bank w views) where
  -- one view changes, and so do the lengths of the rows of its tickets
  pub counted_set : (new : View) → weight new ≡ weight v
      → ((row : ℕ) → times row new.tickets + length_of w row
      ≡ times row v.tickets + length_of u row)
      → AreCounted all bank u (set views id new)
  counted_set new same moves = record {
    tickets = λ row. let moved = total-set_at (λ y. times row y.tickets) views id v new at in
        let sum = counts.tickets row in let moves_here = moves row in omega arith;
    credits = let moved = total-set_at weight views id v new at in
        let sum = counts.credits in omega arith;
  }

  -- a view in use changes in nothing that counts
  pub counted_still : (a d : Card) → v ≡ only a → d.credits ≡ a.credits → u.lengths ≡ w.lengths
      → AreCounted all bank u (set views id (only d))
  counted_still a d whole credits lengths = counted_set (only d)
      (let before = ap weight whole in omega arith)
      (λ row. let before = ap (λ (y : View). times row y.tickets) whole in
      let here = ap (λ ls. slice_index ls row) lengths in omega arith)

module _ (all bank : ℕ) (w : World) (views : List View) (counts : AreCounted all bank w views) where
  -- a view is cut in two
  pub counted_split : (id : ℕ) (v left right : View) → get_elem? views id ≡ some v
      → weight left + weight right ≡ weight v
      → ((row : ℕ) → times row left.tickets + times row right.tickets ≡ times row v.tickets)
      → AreCounted all bank w (set views id left ++ right ∷ [])
  counted_split id v left right at same each = record {
    tickets = λ row. let f : View → ℕ = λ y. times row y.tickets in
        let moved = total-set_at f views id v left at in
        let longer = total-append f (set views id left) (right ∷ []) in
        let sum = counts.tickets row in let parts = each row in omega arith;
    credits = let moved = total-set_at weight views id v left at in
        let longer = total-append weight (set views id left) (right ∷ []) in
        let sum = counts.credits in omega arith;
  }

  -- a view takes another in, which is left with nothing
  pub counted_join : (id : ℕ) (v : View) (other : ℕ) (x both : View) → get_elem? views id ≡ some v
      → get_elem? (set views id both) other ≡ some x → weight both ≡ weight v + weight x
      → ((row : ℕ) → times row both.tickets ≡ times row v.tickets + times row x.tickets)
      → AreCounted all bank w (set (set views id both) other spent)
  counted_join id v other x both at at' same each = record {
    tickets = λ row. let f : View → ℕ = λ y. times row y.tickets in
        let moved = total-set_at f views id v both at in
        let gone = total-set_at f (set views id both) other x spent at' in
        let sum = counts.tickets row in let parts = each row in omega arith;
    credits = let moved = total-set_at weight views id v both at in
        let gone = total-set_at weight (set views id both) other x spent at' in
        let sum = counts.credits in omega arith;
  }

  -- one view more, with nothing
  pub counted_spent : AreCounted all bank w (views ++ spent ∷ [])
  counted_spent = record {
    tickets = λ row. let f : View → ℕ = λ y. times row y.tickets in
        let longer = total-append f views (spent ∷ []) in
        let sum = counts.tickets row in omega arith;
    credits = let longer = total-append weight views (spent ∷ []) in
        let sum = counts.credits in omega arith;
  }

-- a row's tickets are some of all
pub tickets-le_weight : (row : ℕ) (views : List View) → tickets_over views row ≤ total weight views
tickets-le_weight row [] = omega arith
tickets-le_weight row (x ∷ views) =
    let few = times-le-length row x.tickets in let rest = tickets-le_weight row views in omega arith

-- a row's tickets, and the credits on one view's cards, are together at most what there is
pub some_of_all : (row : ℕ) (views : List View) (id : ℕ) (v : View) → get_elem? views id ≡ some v
    → tickets_over views row + card_credits v.cards ≤ total weight views
some_of_all row [] id v at = absurd (some-ne-none v (sym at))
some_of_all row (x ∷ views) zero v at =
    let same = ap (λ (y : View). card_credits y.cards) (some-injective x v at) in
    let few = times-le-length row x.tickets in let rest = tickets-le_weight row views in omega arith
some_of_all row (x ∷ views) (suc id) v at =
    let few = times-le-length row x.tickets in let rest = some_of_all row views id v at in
    omega arith

-- the credits of cards that are put together, or turned
pub card_credits-append : (xs ys : List Card)
    → card_credits (xs ++ ys) ≡ card_credits xs + card_credits ys
card_credits-append xs ys = total-append (λ (c : Card). c.credits) xs ys

pub card_credits-reverse : (cards : List Card) → card_credits (reverse cards) ≡ card_credits cards
card_credits-reverse [] = refl
card_credits-reverse (c ∷ cards) = let rest = card_credits-reverse cards in
    let turned = ap card_credits (reverse-append (c ∷ []) cards) in
    let sum = card_credits-append (reverse cards) (c ∷ []) in omega arith
