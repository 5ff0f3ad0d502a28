use Rattle.std.proofs.Common.{◌≡◌}
use Rattle.tensor_terms.specs.Tree.{movement_at}
use Rattle.tensor_views.specs.Axes.{moved_start}
use Rattle.tensor_views.proofs.Moves.{is_moved}
use Rattle.tensor_views.proofs.view.View.moved.Goals as goal

pub returns : goal.returns
returns c = λ ds rs along h.
    let m = movement_at c.args.movement in
    let start : c.moved_start.result ≡ moved_start m c.args.self.start c.args.self.axes.items =
    rw (c.as_ref.ensures.start, c.as_ref.ensures.axes) at c.moved_start.ensures in
    is_moved c.args.self.axes.items ds rs along m c.args.self.start c.moved_start.result
    c.in_ok-moved_axes.field-0.items h start c.in_ok-moved_axes.ensures
