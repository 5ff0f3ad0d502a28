use Rattle.std.proofs.Common.{◌≡◌, ℕ, List, length, ap, sym, ◌∙◌}
use Rattle.std.specs.List.{range_with_len}
use Rattle.tensor_terms.proofs.Dropped.{axes_first, length-axes_first}
use Rattle.tensor_ops.proofs.part_evaluator.value_runs.come_first.Goals as goal

pub returns : goal.returns
returns c =
    let axes : List ℕ = c.args.axes.now in
    let rank : ℕ = c.args.rank in
    let all : c.as_slice.result.now ≡ axes_first axes rank =
    c.as_slice.ensures.value ∙ c.axes_first.ensures in
    let long : length c.as_slice.result.now ≡ rank =
    ap length all ∙ length-axes_first rank axes c.requires.axes in (
      λ in_order. sym all ∙ c.is_in_order.ensures.0 in_order ∙ ap (range_with_len 0) long,
      λ first. c.is_in_order.ensures.1 (all ∙ first ∙ ap (range_with_len 0) (sym long)),
    )
