-- The seats of a count that was just made.
use Rattle.std.proofs.Common.{◌≡◌, ℕ, ◌+◌, List, [], ◌∷◌, All, map, length, ap, sym, refl, ◌∙◌}
use Rattle.std.proofs.Common.{arith, Result, Ok, Err, IfOk}
use Rattle.std.specs.List.{range_with_len}
use Rattle.std.proofs.lemmas.List.{length-map}
use Rattle.std.proofs.lemmas.List.Elements.{All-nil, All-cons}
use Rattle.std.proofs.lemmas.List.FromFn.{length-map-range_with_len}
use Rattle.event_count.specs.declared.rule.Sizes.{Sizes}
use Rattle.event_count.specs.declared.rule.RowSizes.{RowSizes}
use Rattle.event_count.specs.declared.seat.Seat.{Seat}
use Rattle.event_count.specs.Cards.{opening_card, fresh, fresh_cards, rowless, first_card}
use Rattle.event_count.specs.Cards.{other_cards}
use Rattle.event_count.specs.Seats.{card_of, IsIdle}
use Rattle.event_count.specs.Rows.Seats.{IsSilent}

module _ (k : RowSizes) where
  -- there is one for each fresh card
  pub as_many : (seats : List Seat) (n : ℕ)
      → map card_of seats ≡ map (opening_card k) (range_with_len 0 n) → length seats ≡ n
  as_many seats n cards = sym (length-map seats card_of)
      ∙ (ap length cards ∙ length-map-range_with_len (opening_card k) 0 n)

  -- and they are idle
  pub all_idle : (seats : List Seat) (numbers : List ℕ)
      → map card_of seats ≡ map (opening_card k) numbers → All IsIdle seats
  all_idle [] numbers cards = All-nil IsIdle
  all_idle (seat ∷ seats) [] cards = absurd (omega (arith, ap length cards))
  all_idle (seat ∷ seats) (n ∷ numbers) cards =
      let card : card_of seat ≡ opening_card k n = ap first_card cards in
      All-cons IsIdle seat seats
      (record { running = ap (λ c. c.phase) card; owes_none = ap (λ c. c.owing) card })
      (all_idle seats numbers (ap other_cards cards))

  -- and announce nothing
  pub all_silent : (seats : List Seat) (numbers : List ℕ)
      → map card_of seats ≡ map (opening_card k) numbers → All IsSilent seats
  all_silent [] numbers cards = All-nil IsSilent
  all_silent (seat ∷ seats) [] cards = absurd (omega (arith, ap length cards))
  all_silent (seat ∷ seats) (n ∷ numbers) cards =
      All-cons IsSilent seat seats (ap (λ c. c.announcing) (ap first_card cards))
      (all_silent seats numbers (ap other_cards cards))

  -- and have the cards' numbers
  pub map-number_at : (seats : List Seat) (numbers : List ℕ)
      → map card_of seats ≡ map (opening_card k) numbers
      → map (λ seat. (card_of seat).number) seats ≡ numbers
  map-number_at [] [] cards = refl
  map-number_at [] (n ∷ numbers) cards = absurd (omega (arith, ap length cards))
  map-number_at (seat ∷ seats) [] cards = absurd (omega (arith, ap length cards))
  map-number_at (seat ∷ seats) (n ∷ numbers) cards =
      let card : card_of seat ≡ opening_card k n = ap first_card cards in
      let rest = map-number_at seats numbers (ap other_cards cards) in
      λ i. (card i).number ∷ rest i

-- the numbers of the seats of a count alone
pub map-number : (k : Sizes) (seats : List Seat) (numbers : List ℕ)
    → map card_of seats ≡ map (fresh k) numbers
    → map (λ seat. (card_of seat).number) seats ≡ numbers
map-number k seats numbers cards = map-number_at (rowless k) seats numbers cards

-- the numbers of the seats, if the count was made
pub numbers_from_zero : {X E : Type 0} (made : Result X E) (seats : X → List Seat)
    (sizes : X → Sizes) (waiters notifiers : ℕ)
    → IfOk made (λ m. sizes m
    ≡ record { waiters = waiters; notifiers = notifiers; first = 0 })
    → IfOk made (λ m. map card_of (seats m) ≡ fresh_cards (sizes m))
    → IfOk made (λ m. map (λ seat. (card_of seat).number) (seats m)
    ≡ range_with_len 0 (waiters + notifiers))
numbers_from_zero (Ok m) seats sizes waiters notifiers is cards =
    map-number (sizes m) (seats m)
    (range_with_len 0 ((sizes m).waiters + (sizes m).notifiers)) cards
    ∙ ap (λ k. range_with_len 0 (k.waiters + k.notifiers)) is
numbers_from_zero (Err e) seats sizes waiters notifiers is cards = tt
