-- The waiters of a count that was just made.
use Rattle.std.proofs.Common.{◌≡◌, ℕ, ◌≤◌, List, [], ◌∷◌, All, map, take, length, ap, sym, refl}
use Rattle.std.proofs.Common.{◌∙◌, subst, arith}
use Rattle.std.specs.List.{range_with_len}
use Rattle.std.proofs.lemmas.List.{take-map}
use Rattle.std.proofs.lemmas.List.Elements.{All-nil, All-cons}
use Rattle.std.proofs.lemmas.List.FromFn.{take-map-range_with_len}
use Rattle.event_count.specs.declared.rule.RowSizes.{RowSizes}
use Rattle.event_count.specs.declared.seat.Seat.{Seat}
use Rattle.event_count.specs.declared.view.Card.{Card}
use Rattle.event_count.specs.Cards.{opening_card, first_card, other_cards, unused_book}
use Rattle.event_count.specs.Rows.Gains.{paying_in}
use Rattle.event_count.specs.Seats.{card_of}
use Rattle.waking_rows.specs.Credits.{banking, HasBanked}
use Rattle.waking_rows.specs.declared.row_point.RowWaiter.{RowWaiter}

-- the sizes of a count with a row for each waiter
abbrev pub sizes_for : ℕ → ℕ → ℕ → RowSizes
sizes_for waiters notifiers credits = record {
  waiters = waiters;
  notifiers = notifiers;
  first = 0;
  rows = waiters;
  credits = credits;
}

-- the card of a waiter of this number: its seat's, which has put its credits into the bank
abbrev pub waiter_card : RowSizes → ℕ → Card
waiter_card k n = banking (opening_card k n)

module _ (k : RowSizes) where
  banked_cards : (seats : List Seat)
      → map (λ seat. banking (card_of seat)) seats ≡ map banking (map card_of seats)
  banked_cards [] = refl
  banked_cards (seat ∷ seats) =
      ap (λ rest. banking (card_of seat) ∷ rest) (banked_cards seats)

  opened_cards : (numbers : List ℕ)
      → map banking (map (opening_card k) numbers) ≡ map (waiter_card k) numbers
  opened_cards [] = refl
  opened_cards (n ∷ numbers) = ap (λ rest. waiter_card k n ∷ rest) (opened_cards numbers)

  -- the first seats of a new count, as waiters
  pub waiter_cards : (total m : ℕ) (all : List Seat) (list : List RowWaiter)
      → map card_of all ≡ map (opening_card k) (range_with_len 0 total) → m ≤ total
      → map (λ waiter. card_of waiter.seat) list
      ≡ map (λ seat. banking (card_of seat)) (take m all)
      → map (λ waiter. card_of waiter.seat) list ≡ map (waiter_card k) (range_with_len 0 m)
  waiter_cards total m all list cards few is =
      is ∙ (banked_cards (take m all) ∙ (ap (map banking) (sym (take-map card_of m all)
      ∙ (ap (take m) cards ∙ take-map-range_with_len (opening_card k) 0 total m few))
      ∙ opened_cards (range_with_len 0 m)))

  -- they are numbered from 0 on
  pub waiter_numbers : (list : List RowWaiter) (numbers : List ℕ)
      → map (λ waiter. card_of waiter.seat) list ≡ map (waiter_card k) numbers
      → map (λ waiter. (card_of waiter.seat).number) list ≡ numbers
  waiter_numbers [] [] cards = refl
  waiter_numbers [] (n ∷ numbers) cards = absurd (omega (arith, ap length cards))
  waiter_numbers (waiter ∷ list) [] cards = absurd (omega (arith, ap length cards))
  waiter_numbers (waiter ∷ list) (n ∷ numbers) cards =
      let card : card_of waiter.seat ≡ waiter_card k n = ap first_card cards in
      let rest = waiter_numbers list numbers (ap other_cards cards) in
      λ i. (card i).number ∷ rest i

  -- what holds of each such card holds of each waiter's
  pub all_waiters : (P : Card → Type 0) → ((n : ℕ) → P (waiter_card k n))
      → (list : List RowWaiter) (numbers : List ℕ)
      → map (λ waiter. card_of waiter.seat) list ≡ map (waiter_card k) numbers
      → All (λ waiter. P (card_of waiter.seat)) list
  all_waiters P each [] numbers cards = All-nil (λ waiter. P (card_of waiter.seat))
  all_waiters P each (waiter ∷ list) [] cards = absurd (omega (arith, ap length cards))
  all_waiters P each (waiter ∷ list) (n ∷ numbers) cards =
      All-cons (λ waiter. P (card_of waiter.seat)) waiter list
      (subst P (sym (ap first_card cards)) (each n))
      (all_waiters P each list numbers (ap other_cards cards))

-- their credits are in the bank
pub banked_first : (k : RowSizes) (credits n : ℕ) → k.credits ≡ credits
    → HasBanked (waiter_card k n) credits
banked_first k credits n same = record {
  none = omega arith;
  book = ap (λ m. paying_in unused_book m) same;
}

-- each seat has the credits that it was to begin with
pub all_credits : (k : RowSizes) (seats : List Seat) (numbers : List ℕ)
    → map card_of seats ≡ map (opening_card k) numbers
    → All (λ seat. (card_of seat).credits ≡ k.credits) seats
all_credits k [] numbers cards = All-nil (λ seat. (card_of seat).credits ≡ k.credits)
all_credits k (seat ∷ seats) [] cards = absurd (omega (arith, ap length cards))
all_credits k (seat ∷ seats) (n ∷ numbers) cards =
    let card : card_of seat ≡ opening_card k n = ap first_card cards in
    All-cons (λ seat. (card_of seat).credits ≡ k.credits) seat seats (ap (λ c. c.credits) card)
    (all_credits k seats numbers (ap other_cards cards))
