-- The load and then the read.
use Rattle.std.proofs.Common.{subst}
use Rattle.event_count.specs.Gains.{IsRead}
use Rattle.event_count.specs.Seats.{card_of}
use Rattle.event_count.proofs.count.Count.look.Goals as goal

pub returns-clause-card : goal.returns-clause-card
returns-clause-card g c =
    subst (λ x. IsRead x c.load_state-word.result (card_of c.load_top.new.seat))
    c.load_state-word.ensures.card c.load_top.ensures.card
