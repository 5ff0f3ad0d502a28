use Rattle.std.proofs.Common.{◌-◌, arith}
use Rattle.tensor_values.proofs.Runs.{part-read}
use Rattle.tensor_loops.proofs.gather.picked.Goals as goal

pub returns-in-Run : goal.returns-in-Run
returns-in-Run c =
    let below = rw c.in-Run.is at c.requires in
    rw c.in-Run.is (part-read c.args.values.now c.in-Run.first (c.in-Run.last - c.in-Run.first) (omega arith))
