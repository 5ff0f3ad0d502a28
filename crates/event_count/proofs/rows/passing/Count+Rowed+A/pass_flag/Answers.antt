use Rattle.std.proofs.Common.{rules, arith}
use Rattle.event_count.proofs.RowSteps.Passing.{pass_flag_keeps}
use Rattle.event_count.proofs.rows.passing.Count+Rowed+A.pass_flag.Goals as goal

pub load-found-requires : goal.load-found-requires
load-found-requires g c = (
  search rules,
  let words = c.args.self.now.words in omega arith,
  pass_flag_keeps _ _ _ _ c.args.seat.now.alone c.requires.pre,
)
