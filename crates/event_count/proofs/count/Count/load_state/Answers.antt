use Rattle.std.proofs.Common.{rules, ◌+◌, ap, sym, ◌∙◌}
use Rattle.event_count.specs.declared.view.Card.{Card}
use Rattle.event_count.specs.Places.{words_for}
use Rattle.event_count.specs.Cards.{only, card_in}
use Rattle.event_count.specs.Gains.{first_of, behind}
use Rattle.event_count.specs.Plays.{Sat}
use Rattle.event_count.proofs.RowSteps.Hearing.{loading_keeps}
use Rattle.event_count.proofs.Keeps.{look_keeps}
use Rattle.event_count.proofs.Cards.{is_kind}
use Rattle.event_count.proofs.count.Count.load_state.Goals as goal

pub load-word-requires : goal.load-word-requires
load-word-requires g c =
    (search rules, search rules, look_keeps _ _ _ _ c.args.seat.now.alone _ (is_kind g.K.Kind.rowed _ c.args.self.now.alone))

pub invariant_of-seat : goal.invariant_of-seat
invariant_of-seat g c =
    let was = c.args.seat.now in let told = c.load-word.ensures.2 in
    let card = ap (λ (m : Sat). card_in m.0) told.1 in
    let same = loading_keeps g.K.Kind.rowed (card_in was.seat.me.0) c.load-word.result in
    let waiters = ap (λ (d : Card). d.waiters) card ∙ same.waiters in
    let rows = ap (λ (d : Card). d.rows) card ∙ same.rows in
    let owing = ap (λ (d : Card). d.owing) card ∙ same.owing in record {
      alone = ap (λ (m : Sat). m.0) told.1 ∙ sym (ap only card);
      none_held = ap (λ (m : Sat). m.1) told.1 ∙ was.none_held;
      sized = waiters ∙ was.sized;
      placed = ap (λ t. t.words) c.load-word.ensures.0
          ∙ (was.placed ∙ ap (λ n. words_for (was.waiters + n)) (sym rows));
      numbered = ap (λ (d : Card). d.number) card ∙ (same.number ∙ was.numbered);
      phased = ap (λ (d : Card). d.phase) card ∙ (same.phase ∙ was.phased);
      never_ended = was.never_ended;
      stacked = was.stacked;
      owes = was.owes ∙ ap first_of (sym owing);
      debt = was.debt;
      chained = ap (λ (d : Card). d.linked) card ∙ (same.linked ∙ was.chained);
      alone_owed = λ e. ap behind owing ∙ was.alone_owed e;
      next_push = (
        ap (λ (d : Card). d.epoch) card ∙ (same.epoch ∙ was.next_push.0),
        was.next_push.1,
      );
      keeps = λ x e. absurd (cc);
      below = ap (λ (d : Card). d.next) card ∙ same.next;
      reads = λ x e. absurd (cc);
      fits = λ x e. absurd (cc);
      heard = λ x e. absurd (cc);
      credited = ap (λ (d : Card). d.credits) card ∙ (same.credits ∙ was.credited);
      few_credits = was.few_credits;
    }

pub returns-clause-looked : goal.returns-clause-looked
returns-clause-looked g c =
    ap (λ (m : Sat). (card_in m.0).looked) c.load-word.ensures.2.1
    ∙ (loading_keeps g.K.Kind.rowed _ c.load-word.result).looked
