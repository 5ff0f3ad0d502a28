use Rattle.std.proofs.Common.{rules, ◌+◌, ap, arith}
use Rattle.event_count.specs.declared.rule.RowSizes.{RowSizes}
use Rattle.event_count.proofs.RowSteps.Passing.{measure_keeps_at}
use Rattle.event_count.proofs.rows.passing.Count+Rowed+A.length.Goals as goal

pub load-requires : goal.load-requires
load-requires g c =
    let kept = ap (λ (k : RowSizes). k.waiters + k.rows) c.args.self.now.kept in
    let rows = ap (λ (k : RowSizes). k.rows) c.args.self.now.kept in
    let words = c.args.self.now.words in let less = c.requires.row in
    let lines = c.lines.ensures.sum in let place = c.row_word_of-word.ensures in (
      search rules,
      omega arith,
      measure_keeps_at _ _ _ _ c.args.seat.now.alone c.args.row (omega arith) _ (omega arith),
    )
