use Rattle.std.proofs.Common.{◌-◌, ◌+◌, sym, ◌∙◌, arith}
use Rattle.tensor_ops.specs.private.Meaning.{meaning}
use Rattle.tensor_values.proofs.Runs.{part-read, map-shifted}
use Rattle.tensor_values.specs.Values.{value_in}
use Rattle.tensor_ops.proofs.lowered.Lowered.run.Goals as goal

pub returns : goal.returns
returns c =
    let below = rw c.in-Run.is at c.requires in
    let list = c.in_ok-list.list.now in
    let first = c.in-Run.first in
    let count = c.in-Run.last - first in
    rw c.in-Run.is
    (part-read list first count (omega (arith, c.in_ok-list.ensures.count))
    ∙ map-shifted (value_in list) (meaning c.args.self.now) first first count
    (λ k inside. sym (c.in_ok-list.ensures.each (first + k))))
