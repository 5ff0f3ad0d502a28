use Rattle.std.proofs.Common.{rules, arith}
use Rattle.event_count.proofs.RowSteps.Banking.{deposit_keeps}
use Rattle.event_count.proofs.rows.banking.Count+Rowed+A.deposit.Goals as goal

pub fetch_add-requires : goal.fetch_add-requires
fetch_add-requires g c = (
  search rules,
  let words = c.args.self.now.words in omega arith,
  (let enough = c.requires.credits in let same = c.from.ensures in
      deposit_keeps _ _ _ _ c.args.seat.now.alone c.from.result (omega arith)),
)
