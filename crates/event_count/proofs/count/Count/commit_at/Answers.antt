-- The push found another word, after the store.
use Rattle.std.proofs.Common.{arith, subst, sym, inl}
use Rattle.std.proofs.lemmas.Grind.{common_steps}
use Rattle.event_count.specs.Kinds.{MayCommit}
use Rattle.event_count.specs.Seats.{row_sizes_of}
use Rattle.event_count.proofs.Missing.{lost_push}
use Rattle.event_count.proofs.Retrying.{may_stored}
use Rattle.event_count.proofs.count.Count.commit_at.Goals as goal

pub returns-else-push-clause-answer : goal.returns-else-push-clause-answer
returns-else-push-clause-answer g c =
    lost_push _ _ _ _ _ _ c.store_next.ensures.card (
      let e = c.args.seat.now.next_push in let f = c.if-seat-eq-EPOCHS.false in omega arith,
      grind (arith, common_steps),
    )
    c.if-push.ensures.card

pub push-requires-clause-passed : goal.push-requires-clause-passed
push-requires-clause-passed g c =
    subst (MayCommit g.K.Kind.rowed (row_sizes_of c.args.self.now)) (sym c.store_next.ensures.card)
    (may_stored g.K.Kind.rowed (row_sizes_of c.args.self.now) _ _ c.requires.passed)

pub returns-else-consume-clause-answer : goal.returns-else-consume-clause-answer
returns-else-consume-clause-answer g c =
    let e = c.args.seat.now.next_push in let f = c.if-seat-eq-EPOCHS.false in (
      c.in-Consumed.offered,
      0,
      inl ((omega arith, c.in-Consumed.ensures), c.if-consume.ensures.card),
    )
