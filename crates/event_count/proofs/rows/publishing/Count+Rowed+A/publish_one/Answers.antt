use Rattle.std.proofs.Common.{rules, ◌+◌, ap, arith}
use Rattle.event_count.specs.declared.rule.RowSizes.{RowSizes}
use Rattle.event_count.specs.Plays.{Sat}
use Rattle.event_count.proofs.RowSteps.Publishing.{publish_keeps_at}
use Rattle.event_count.proofs.RowSteps.Tokens.{cut_keeps}
use Rattle.event_count.proofs.rows.publishing.Count+Rowed+A.publish_one.Goals as goal

pub fetch_add-requires : goal.fetch_add-requires
fetch_add-requires g c =
    let kept = ap (λ (k : RowSizes). k.waiters + k.rows) c.args.self.now.kept in
    let rows = ap (λ (k : RowSizes). k.rows) c.args.self.now.kept in
    let words = c.args.self.now.words in let less = c.requires.row in
    let lines = c.lines.ensures.sum in let place = c.row_word_of-place.ensures in (
      search rules,
      omega arith,
      publish_keeps_at _ _ _ _ c.args.seat.now.alone c.args.row (omega arith) c.requires.running
          c.requires.owes_none c.requires.silent c.requires.credit _ (omega arith),
    )

pub split_seat-ticket-requires : goal.split_seat-ticket-requires
split_seat-ticket-requires g c = (
  search rules,
  let words = c.args.self.now.words in omega arith,
  cut_keeps _ _ _ _ _ (ap (λ (m : Sat). m.0) c.fetch_add.ensures.2.2),
)
