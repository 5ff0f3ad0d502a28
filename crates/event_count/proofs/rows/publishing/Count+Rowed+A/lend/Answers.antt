use Rattle.std.proofs.Common.{rules, arith}
use Rattle.event_count.proofs.RowSteps.Tokens.{lend_keeps}
use Rattle.event_count.proofs.rows.publishing.Count+Rowed+A.lend.Goals as goal

pub split_seat-credit-requires : goal.split_seat-credit-requires
split_seat-credit-requires g c = (
  search rules,
  let words = c.args.self.now.words in omega arith,
  lend_keeps _ _ _ c.args.seat.now.alone
      (let has = c.args.seat.now.credited in let some_left = c.if-seat-eq0.false in omega arith),
)
