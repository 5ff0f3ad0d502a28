use Rattle.std.proofs.Common.{ap, ◌∙◌, arith, not}
use Rattle.std.specs.List.{filter, range_with_len}
use Rattle.tensor_terms.specs.Movement.{is_among}
use Rattle.tensor_terms.proofs.index.index_parts.all_others.Goals as goal

pub returns : goal.returns
returns c = c.others.ensures ∙ ap (λ n. filter
    (λ k. not (is_among k c.args.axes.now)) (range_with_len 0 n)) (omega arith)
