-- What is asked for stays so, and the exchange found another word.
use Rattle.event_count.specs.Seats.{card_of}
use Rattle.event_count.proofs.Retrying.{later_pre, may_later, lost_commit}
use Rattle.event_count.proofs.count.Count.commit.Goals as goal

pub commit_at-requires-clause-passed : goal.commit_at-requires-clause-passed
commit_at-requires-clause-passed g c = may_later _ _ _ _
    (later_pre _ _ _ _ (card_of c.loop.seat) _ c.loop.invariant.later c.load_state-word.ensures.card c.requires.pre)
    c.requires.passed

pub returns-in-Pushed-clause-answer : goal.returns-in-Pushed-clause-answer
returns-in-Pushed-clause-answer g c = (
  _,
  _,
  c.loop.invariant.later,
  (
    c.load_state-word.result,
    c.load_state-word.ensures.card,
    (_, c.in-Pushed.ensures.answer, c.take_token.ensures.card),
  ),
)

pub loop-preserved : goal.loop-preserved
loop-preserved g c = record {
  can = tt;
  finite = tt;
  of = c.in-Contended.ensures.of;
  later = lost_commit _ _ _ _ _ _ c.loop.invariant.later c.load_state-word.ensures.card
      c.requires.pre c.in-Contended.ensures.answer;
}
