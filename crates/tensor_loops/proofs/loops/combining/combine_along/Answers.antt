use Rattle.std.proofs.Common.{◌+◌, ap, ◌∙◌, arith}
use Rattle.tensor_loops.specs.Loops.{either_way}
use Rattle.tensor_values.specs.Values.{value_in}
use Rattle.tensor_views.specs.View.{along}
use Rattle.std.proofs.Common.{get_or, pos}
use Rattle.tensor_loops.proofs.loops.combining.combine_along.Goals as goal

pub returns-clause-each : goal.returns-clause-each
returns-clause-each c = λ k below.
    c.combine_rows.ensures.each k below
    ∙ ap (λ p. either_way c.args.link.operation c.args.link.swapped (get_or c.args.values.now k (pos 0)) (value_in c.args.reading.list.now p))
    (ap (λ l. along l c.in_ok-axis.axis c.args.first (c.args.first + k)) c.deref.ensures.value
    ∙ c.in_ok-axis.ensures.along (c.args.first + k) (omega arith) (omega (arith, below)))
