use Rattle.std.proofs.Common.{rules, arith}
use Rattle.event_count.proofs.RowSteps.Banking.{withdraw_keeps}
use Rattle.event_count.proofs.rows.banking.Count+Rowed+A.withdraw.Goals as goal

pub swap-found-requires : goal.swap-found-requires
swap-found-requires g c = (
  search rules,
  let words = c.args.self.now.words in omega arith,
  withdraw_keeps _ _ _ _ c.args.seat.now.alone,
)
