-- The parts of counts and seats that contracts name.
use Rattle.std.specs.Prelude.{◌≡◌, ℕ, ◌+◌, [], Option, None}
use Rattle.atomic_table.specs.Seated.{TableId}
use Rattle.event_word.specs.declared.phase.Phase.TheVariants.{Running}
use Rattle.event_count.specs.declared.rule.Sizes.{Sizes}
use Rattle.event_count.specs.declared.rule.RowSizes.{RowSizes}
use Rattle.event_count.specs.declared.view.Card.{Card}
use Rattle.event_count.specs.declared.seat.Seat.{Seat}
use Rattle.event_count.specs.declared.kind.Kind.{Ghosts}
use Rattle.event_count.specs.declared.count.Count.{Count}
use Rattle.event_count.specs.Cards.{card_in, sizes_in}

-- what a seat has done, and what it knows of itself
abbrev pub card_of : Seat → Card
card_of seat = card_in seat.seat.me.0

-- the word of the seat's last look, until the look is used up
abbrev pub looked_of : Seat → Option ℕ
looked_of seat = seat.looked

-- the seat has not looked, or has used the look up
abbrev pub HasNoLook : Seat → Type 0
HasNoLook seat = looked_of seat ≡ None

-- the count to which the seat belongs
abbrev pub seat_id : Seat → TableId
seat_id seat = seat.seat.table_id

-- the seat runs and owes nobody an unpark
pub record IsIdle (seat : Seat) : Type 0 where
  pub running : (card_of seat).phase ≡ Running
  pub owes_none : (card_of seat).owing ≡ []

module _ {K A : Type 0} {G : Ghosts K} where
  -- the sizes with which a count was made, with its rows and credits
  abbrev pub row_sizes_of : Count K A G → RowSizes
  row_sizes_of count = count.table.shared.key

  -- the sizes with which a count was made, without rows and credits
  abbrev pub sizes_of : Count K A G → Sizes
  sizes_of count = sizes_in (row_sizes_of count)

  -- how many seats a count was made with
  abbrev pub seats_of : Count K A G → ℕ
  seats_of count = (sizes_of count).waiters + (sizes_of count).notifiers

  -- what distinguishes this count from others
  abbrev pub count_id : Count K A G → TableId
  count_id count = count.table.shared.table_id

  -- the seat was made by the count
  abbrev pub IsSeatOf : Count K A G → Seat → Type 0
  IsSeatOf count seat = seat_id seat ≡ count_id count
