use Rattle.event_count.proofs.RowSteps.Present.{lengths_tickets, tickets_show}
use Rattle.event_count.proofs.laws.lengths_are_tickets.Goals as goal

pub returns-clause-words : goal.returns-clause-words
returns-clause-words c = lengths_tickets

pub returns-clause-tickets : goal.returns-clause-tickets
returns-clause-tickets c = tickets_show
