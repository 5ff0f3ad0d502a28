use Rattle.std.proofs.Common.{◌*◌, ap, sym, ◌∙◌, arith}
use Rattle.tensor_views.specs.View.{reached}
use Rattle.tensor_views.proofs.Views.{row-of-first}
use Rattle.tensor_views.proofs.listed_places.row_with.Goals as goal

pub returns-then-place-row-clause-first : goal.returns-then-place-row-clause-first
returns-then-place-row-clause-first c =
    let same = row-of-first c.args.axis.size c.args.row.first c.args.place c.requires.row_first
    (omega arith) (omega arith) in
    c.requires.row_first ∙ ap (λ q. c.args.axis.size * q) (sym same)

pub returns-then-place-row-clause-start : goal.returns-then-place-row-clause-start
returns-then-place-row-clause-start c =
    let same = row-of-first c.args.axis.size c.args.row.first c.args.place c.requires.row_first
    (omega arith) (omega arith) in
    c.requires.row_start ∙ ap (reached c.args.slower.start c.args.slower.axes.now) (sym same)
