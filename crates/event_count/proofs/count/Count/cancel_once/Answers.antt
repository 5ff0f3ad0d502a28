use Rattle.event_count.proofs.Retrying.{later_same, lost_cancel}
use Rattle.event_count.proofs.count.Count.cancel_once.Goals as goal

pub returns-in-Contended-clause-contended : goal.returns-in-Contended-clause-contended
returns-in-Contended-clause-contended g c _ =
    lost_cancel _ _ _ _ _ _ (later_same _) c.load_state-word.ensures.card c.requires.pre
    c.in-Contended.ensures.answer

pub returns-in-Contended-clause-lost : goal.returns-in-Contended-clause-lost
returns-in-Contended-clause-lost g c _ =
    (_, _, c.load_state-word.ensures.card, c.in-Contended.ensures.answer)
