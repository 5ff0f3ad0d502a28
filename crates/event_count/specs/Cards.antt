-- Cards, which say what a seat knows, and how they are dealt out and put together.
use Rattle.std.specs.Prelude.{ℕ, ◌+◌, List, [], ◌∷◌, ◌++◌, map, replicate, slice_index_or, Some, None}
use Rattle.std.specs.Prelude.{false}
use Rattle.std.specs.List.{range_with_len}
use Rattle.event_word.specs.declared.phase.Phase.TheVariants.{Running}
use Rattle.event_word.specs.Word.{nobody}
use Rattle.event_count.specs.declared.rule.Sizes.{Sizes}
use Rattle.event_count.specs.declared.rule.RowSizes.{RowSizes}
use Rattle.event_count.specs.declared.view.Exchange.{Exchange}
use Rattle.event_count.specs.declared.view.Finding.{Finding}
use Rattle.event_count.specs.declared.view.BankBook.{BankBook}
use Rattle.event_count.specs.declared.view.Card.{Card}
use Rattle.event_count.specs.declared.view.View.{View}

-- an exchange that expected one word, offered another, and found a word
abbrev pub exchange_of : ℕ → ℕ → ℕ → Exchange
exchange_of expected offered found =
    record { expected = expected; offered = offered; found = found }

-- a load that found this length of the row
abbrev pub found_in : ℕ → ℕ → Finding
found_in row length = record { row = Some row; word = length }

-- a load that found this stop word
abbrev pub found_at_stop : ℕ → Finding
found_at_stop word = record { row = None; word = word }

-- the book of a seat that has had nothing to do with the bank
abbrev pub unused_book : BankBook
unused_book = record { put_in = 0; taken_out = 0; withdrawals = 0 }

-- the sizes of a count alone
abbrev pub rowless : Sizes → RowSizes
rowless k = record {
  waiters = k.waiters;
  notifiers = k.notifiers;
  first = k.first;
  rows = 0;
  credits = 0;
}

-- the sizes without the number of rows and of credits
abbrev pub sizes_in : RowSizes → Sizes
sizes_in k = record { waiters = k.waiters; notifiers = k.notifiers; first = k.first }

-- The card of a seat of this number that has done nothing. Its looked word is the word of an empty
-- stack, so it names no seat as the top.
abbrev pub opening_card : RowSizes → ℕ → Card
opening_card k number = record {
  waiters = k.waiters;
  rows = k.rows;
  number = number;
  phase = Running;
  owing = [];
  linked = false;
  events = [];
  epoch = k.first;
  loads = 0;
  looked = nobody;
  next = None;
  stored = 0;
  exchanges = 0;
  exchange = exchange_of 0 0 0;
  polls = 0;
  passed_flag = false;
  passed = slice_index_or (replicate k.waiters (replicate k.rows false)) number [];
  announcing = false;
  credits = k.credits;
  book = unused_book;
  found = found_at_stop 0;
}

-- the card of a seat of a count alone that has done nothing
abbrev pub fresh : Sizes → ℕ → Card
fresh k number = opening_card (rowless k) number

-- the view with these cards alone
abbrev pub view : List Card → View
view cards = record { cards = cards; tickets = []; credits = 0 }

-- the view of a seat that also has these tickets
abbrev pub holding : List ℕ → Card → View
holding tickets card = record { cards = card ∷ []; tickets = tickets; credits = 0 }

-- the view of a seat in use
abbrev pub only : Card → View
only card = view (card ∷ [])

-- the first card, if there is one
abbrev pub first_card : List Card → Card
first_card [] = fresh (record { waiters = 0; notifiers = 0; first = 0 }) 0
first_card (card ∷ cards) = card

-- the cards without the first
abbrev pub other_cards : List Card → List Card
other_cards [] = []
other_cards (card ∷ cards) = cards

-- the card of a seat in use
abbrev pub card_in : View → Card
card_in v = first_card v.cards

-- the cards of all seats, by number
abbrev pub opening_cards : RowSizes → List Card
opening_cards k = map (opening_card k) (range_with_len 0 (k.waiters + k.notifiers))

-- the cards of all seats of a count alone, by number
abbrev pub fresh_cards : Sizes → List Card
fresh_cards k = opening_cards (rowless k)

-- the view before any card is dealt
abbrev pub undealt : RowSizes → View
undealt k = view (opening_cards k)

-- the view that is left after the first card was dealt
abbrev pub after_deal : View → View
after_deal v = record v { cards = other_cards v.cards }

-- the view of the seat to which the first card is dealt
abbrev pub dealt : View → View
dealt v = only (card_in v)

-- the view of a seat that has taken another in: the cards, tickets and credits of both
abbrev pub together : View → View → View
together v w = record {
  cards = v.cards ++ w.cards;
  tickets = v.tickets ++ w.tickets;
  credits = v.credits + w.credits;
}

-- the view of a seat that was taken in: it has nothing
abbrev pub spent : View
spent = view []
