-- The keeper has all cards.
use Rattle.std.proofs.Common.{[], rules, arith}
use Rattle.event_count.specs.Cards.{undealt}
use Rattle.event_count.proofs.Dealing.{arrive_keeps}
use Rattle.event_count.proofs.Closing.{last_word, has_ended, came_back}
use Rattle.event_count.proofs.count.Count.close_with.Goals as goal

pub load_new_seat-keeper-requires : goal.load_new_seat-keeper-requires
load_new_seat-keeper-requires g c = (
  let words = c.args.self.words in omega arith,
  arrive_keeps _ _ (undealt c.args.self.table.shared.key, []),
)

pub free-requires : goal.free-requires
free-requires g c = λ k less.
    let counts = c.close_with-closed.ensures.counts.1 in let none = c.args.self.slotless in
    absurd (omega arith)

pub returns-clause-word : goal.returns-clause-word
returns-clause-word g c =
    let f = c.close_with-closed.ensures.values.2 in
    let back = came_back _ _ c.gather.ensures.cards c.requires.idle in let all = c.requires.all in
    last_word _ f.0 _ _ _ _ f.1.0 f.1.1 (omega arith) back.1 f.2 c.word-word.ensures (search rules)

pub returns-clause-ends : goal.returns-clause-ends
returns-clause-ends g c =
    let f = c.close_with-closed.ensures.values.2 in
    let back = came_back _ _ c.gather.ensures.cards c.requires.idle in let all = c.requires.all in
    has_ended _ f.0 _ _ _ f.1.0 f.1.1 c.gather.ensures.cards (omega arith) back.1
