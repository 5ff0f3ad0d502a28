-- How credits flow back through the bank of the count. So a seat that puts more than it takes can
-- go on.
use Rattle.std.specs.Prelude.{◌≡◌, ℕ, ◌+◌, ◌-◌, ◌==◌, nat_lt, Bool, true, false, MatchBool}
use Rattle.event_count.specs.declared.view.BankBook.{BankBook}
use Rattle.event_count.specs.declared.view.Card.{Card}
use Rattle.event_count.specs.Cards.{unused_book}
use Rattle.event_count.specs.Rows.Gains.{paying_in, taking_out, depositing, withdrawing}

-- a seat with more credits than this puts some into the bank
abbrev pub many_credits : ℕ
many_credits = 1024

-- the number of credits that such a seat keeps
abbrev pub kept_credits : ℕ
kept_credits = 512

-- how many of these credits go into the bank, by whether they are many
abbrev pub surplus_if : Bool → ℕ → ℕ
surplus_if true credits = credits - kept_credits
surplus_if false credits = 0

-- how many of these credits go into the bank
abbrev pub surplus : ℕ → ℕ
surplus credits = surplus_if (nat_lt many_credits credits) credits

-- how many of these credits the seat keeps
abbrev pub kept : ℕ → ℕ
kept credits = credits - surplus credits

-- the card after the seat put its surplus into the bank
abbrev pub saving : Card → Card
saving c = depositing c (surplus c.credits)

-- the card after the seat put all its credits into the bank
abbrev pub banking : Card → Card
banking c = depositing c c.credits

-- the card of a seat that began with this many credits, has put them into the bank, and has done no
-- more there
pub record HasBanked (c : Card) (credits : ℕ) : Type 0 where
  pub none : c.credits ≡ 0
  pub book : c.book ≡ paying_in unused_book credits

-- the card of a seat that is to put a job in: without a credit it has taken out what was in the bank,
-- and put its surplus back
abbrev pub IsFunded : Card → Card → Type 0
IsFunded c d = MatchBool (c.credits == 0)
    ((found : ℕ) × (d ≡ saving (withdrawing c found))) (d ≡ c)

-- How a put changes the book of a seat that has this many credits before it. A seat with a credit
-- leaves the bank alone. A seat without one takes out what is there, and puts the surplus back.
abbrev pub GoesToBank : ℕ → BankBook → BankBook → Type 0
GoesToBank credits before after = MatchBool (credits == 0)
    ((found : ℕ) × (after ≡ paying_in (taking_out before found) (surplus found)))
    (after ≡ before)

-- how many credits such a seat has for its put: its own, and what it keeps of those it took out
abbrev pub funds_of : ℕ → BankBook → BankBook → ℕ
funds_of credits before after = credits + kept (after.taken_out - before.taken_out)
