use Rattle.std.proofs.Common.{◌≡◌, ◌∙◌, map, IfOk, ap, subst, length}
use Rattle.tensor_values.specs.Values.{value_in}
use Rattle.tensor_views.specs.View.{reached, view_size}
use Rattle.tensor_views.specs.declared.places.Places.TheVariants.{Listed}
use Rattle.tensor_values.proofs.Runs.{map-map-of}
use Rattle.tensor_views.proofs.Soundness.{reached-within}
use Rattle.tensor_loops.proofs.gather.picked_along.Goals as goal

pub gathered-requires : goal.gathered-requires
gathered-requires c =
    rw (c.deref.ensures.value ∙ c.in_ok-sources-in-Listed.ensures)
    (λ k within. reached-within (reached c.args.reading.view.start c.args.reading.view.axes.now) (Listed c.in-Listed.places) (view_size c.args.reading.view.axes.now)
    (length c.args.reading.list.now) k (rw c.in-Listed.is at c.requires.within) c.requires.inside within)

pub returns-in_ok-sources-in-Listed : goal.returns-in_ok-sources-in-Listed
returns-in_ok-sources-in-Listed c =
    rw c.in-Listed.is
    (subst (λ l. IfOk c.gathered.result (λ v. v.items ≡ l))
    (ap (map (value_in c.args.reading.list.now)) (c.deref.ensures.value ∙ c.in_ok-sources-in-Listed.ensures)
    ∙ map-map-of (value_in c.args.reading.list.now) (reached c.args.reading.view.start c.args.reading.view.axes.now) c.in-Listed.places.now)
    c.gathered.ensures)
