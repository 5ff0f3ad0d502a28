-- How the steps on rows, on the stop word and on the bank change a seat's card.
use Rattle.std.specs.Prelude.{ℕ, ◌+◌, ◌-◌, ◌==◌, Bool, true, false, [], ◌∷◌, slice_set}
use Rattle.event_word.specs.declared.event.Event.TheVariants.{Publish, Take, Pass, PassFlag, Stop}
use Rattle.event_count.specs.declared.view.BankBook.{BankBook}
use Rattle.event_count.specs.declared.view.Card.{Card}
use Rattle.event_count.specs.Cards.{found_in, found_at_stop}
use Rattle.event_count.specs.Gains.{gaining}

-- the card after a publish in the row, which took a credit: the seat is to notify
abbrev pub publishing : Card → ℕ → Card
publishing c row = record (gaining c c.phase (Publish c.number row ∷ [])) {
  announcing = true;
  credits = c.credits - 1;
}

-- the card after a take from the row, which gave a credit
abbrev pub redeeming : Card → ℕ → Card
redeeming c row =
    record (gaining c c.phase (Take c.number row ∷ [])) { credits = c.credits + 1 }

-- the card after the row was passed (true), or was not
abbrev pub passing_by : Bool → Card → ℕ → Card
passing_by true c row = record (gaining c c.phase (Pass c.number row ∷ [])) {
  passed = slice_set c.passed row true;
}
passing_by false c row = c

-- the card after a load of the row's length, which passes the row if it has no jobs
abbrev pub passing : Card → ℕ → ℕ → Card
passing c row found = record (passing_by (found == 0) c row) { found = found_in row found }

-- the card after a load of the row's length that passes nothing
abbrev pub measuring : Card → ℕ → ℕ → Card
measuring c row found = record c { found = found_in row found }

-- the card after the flag was passed (true), or was not
abbrev pub passing_flag_by : Bool → Card → Card
passing_flag_by true c =
    record (gaining c c.phase (PassFlag c.number ∷ [])) { passed_flag = true }
passing_flag_by false c = c

-- the card after a load of the stop word, which passes the flag if nobody has stopped the count
abbrev pub passing_flag : Card → ℕ → Card
passing_flag c found =
    record (passing_flag_by (found == 0) c) { found = found_at_stop found }

-- the card after the seat has stopped the count and is to notify (true), or another seat had
-- stopped it
abbrev pub stopping_by : Bool → Card → Card
stopping_by true c = record (gaining c c.phase (Stop c.number ∷ [])) { announcing = true }
stopping_by false c = c

-- the card after an exchange of the stop word, which stops the count if nobody had
abbrev pub stopping : Card → ℕ → Card
stopping c found = record (stopping_by (found == 0) c) { found = found_at_stop found }

-- the card after a credit was lent to another seat
abbrev pub lending : Card → Card
lending c = record c { credits = c.credits - 1 }

-- the card after a credit was accepted from another seat
abbrev pub accepting : Card → Card
accepting c = record c { credits = c.credits + 1 }

-- the book after this number of credits was put into the bank
abbrev pub paying_in : BankBook → ℕ → BankBook
paying_in book credits = record book { put_in = book.put_in + credits }

-- the book after this number of credits was found in the bank and taken out
abbrev pub taking_out : BankBook → ℕ → BankBook
taking_out book found = record book {
  taken_out = book.taken_out + found;
  withdrawals = book.withdrawals + 1;
}

-- the card after this number of credits was put into the bank
abbrev pub depositing : Card → ℕ → Card
depositing c credits = record c {
  credits = c.credits - credits;
  book = paying_in c.book credits;
}

-- the card after this number of credits was found in the bank and taken out
abbrev pub withdrawing : Card → ℕ → Card
withdrawing c found = record c {
  credits = c.credits + found;
  book = taking_out c.book found;
}
