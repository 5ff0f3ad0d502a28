use Rattle.std.proofs.Common.{◌+◌, ◌-◌, ◌++◌, map, ap, ◌∙◌, arith}
use Rattle.std.specs.List.{range_with_len}
use Rattle.tensor_values.specs.Values.{value_in}
use Rattle.tensor_views.specs.View.{along, reached}
use Rattle.tensor_values.proofs.Runs.{map-shifted}
use Rattle.tensor_loops.proofs.gather.gathered_along.Goals as goal

pub returns : goal.returns
returns c =
    c.in_ok-gather_rows.ensures
    ∙ ap (λ l. l ++ map (λ p. value_in c.args.reading.list.now (along c.deref.result.now c.in_ok-axis.axis c.args.first p)) (range_with_len c.args.first (c.args.last - c.args.first)))
    c.in_ok-gathered.ensures.items
    ∙ map-shifted (λ p. value_in c.args.reading.list.now (along c.deref.result.now c.in_ok-axis.axis c.args.first p))
    (λ p. value_in c.args.reading.list.now (reached c.args.reading.view.start c.args.reading.view.axes.now p))
    c.args.first c.args.first (c.args.last - c.args.first)
    (λ k below. ap (value_in c.args.reading.list.now)
    (ap (λ l. along l c.in_ok-axis.axis c.args.first (c.args.first + k)) c.deref.ensures.value
    ∙ c.in_ok-axis.ensures.along (c.args.first + k) (omega arith) (omega arith)))
