-- Credits and tickets: which seats may publish, and which jobs were published.
use Rattle.std.specs.Prelude.{◌≡◌, ℕ, ◌+◌, ◌*◌, List, [], ◌∷◌, length, slice_index}
use Rattle.event_word.specs.Lists.{total, times}
use Rattle.event_word.specs.World.{World, length_of}
use Rattle.event_count.specs.declared.rule.TheConstants.{BANK}
use Rattle.event_count.specs.declared.rule.RowSizes.{RowSizes}
use Rattle.event_count.specs.declared.view.Card.{Card}
use Rattle.event_count.specs.declared.view.View.{View}

-- the number of credits with which the seats open, together
abbrev pub credits_for : RowSizes → ℕ
credits_for k = (k.waiters + k.notifiers) * k.credits

-- the number of credits on these cards, together
abbrev pub card_credits : List Card → ℕ
card_credits cards = total (λ c. c.credits) cards

-- the number of a view's tickets and credits, together
abbrev pub weight : View → ℕ
weight v = length v.tickets + (v.credits + card_credits v.cards)

-- the number of the row's tickets, over all views
abbrev pub tickets_over : List View → ℕ → ℕ
tickets_over views row = total (λ v. times row v.tickets) views

-- the number of credits in the bank
abbrev pub banked : List ℕ → ℕ
banked words = slice_index words BANK

-- The length of each row is the number of its tickets. The number of tickets and credits, over all
-- views and in the bank, stays.
pub record AreCounted (all bank : ℕ) (w : World) (views : List View) : Type 0 where
  pub tickets : (row : ℕ) → tickets_over views row ≡ length_of w row
  pub credits : total weight views + bank ≡ all

-- the view of a ticket of the row
abbrev pub ticket : ℕ → View
ticket row = record { cards = []; tickets = row ∷ []; credits = 0 }

-- the view of a credit
abbrev pub credit : View
credit = record { cards = []; tickets = []; credits = 1 }
