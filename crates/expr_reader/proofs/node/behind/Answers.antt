use Rattle.expr_reader.proofs.Walk.{fault-behind}
use Rattle.expr_reader.proofs.node.behind.Goals as goal

pub returns-in-Err-clause-found : goal.returns-in-Err-clause-found
returns-in-Err-clause-found c = λ inputs says found.
    rw c.push.ensures.items (fault-behind says c.args.way.now.items c.args.position c.in-Err.fault (rw c.in-Err.is at found))
