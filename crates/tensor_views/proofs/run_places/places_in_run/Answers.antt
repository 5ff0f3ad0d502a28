use Rattle.std.proofs.Common.{◌≡◌, ◌+◌, ◌-◌, IfOk, ap, subst, ◌∙◌, arith}
use Rattle.tensor_views.specs.View.{along, reached}
use Rattle.tensor_values.proofs.Runs.{map-shifted}
use Rattle.tensor_views.proofs.run_places.places_in_run.Goals as goal

pub returns : goal.returns
returns c =
    subst (λ l. IfOk c.laid_out.result (λ v. v.items ≡ l))
    (map-shifted (along c.deref.result.now c.in_ok-axis.axis c.args.first) (reached c.args.view.start c.args.view.axes.now)
    c.args.first c.args.first (c.args.last - c.args.first)
    (λ k below. ap (λ l. along l c.in_ok-axis.axis c.args.first (c.args.first + k)) c.deref.ensures.value
    ∙ c.in_ok-axis.ensures.along (c.args.first + k) (omega arith) (omega arith)))
    c.laid_out.ensures
