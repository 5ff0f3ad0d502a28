use Rattle.tensor_loops.proofs.Inverses.{quotient-is}
use Rattle.tensor_loops.proofs.loops.inverse.Inverse.quotient.Goals as goal

pub returns : goal.returns
returns c =
    let i = c.args.self in
    quotient-is c.args.number i.divisor i.multiplier i.shift i.some c.requires i.digits i.least i.most
