use Rattle.std.proofs.Common.{ap, ◌∙◌, arith}
use Rattle.std.specs.List.{filter, range_with_len}
use Rattle.tensor_terms.specs.Movement.{is_among}
use Rattle.tensor_terms.proofs.index.index_parts.all_among.Goals as goal

pub returns : goal.returns
returns c = c.among.ensures ∙ ap (λ n. filter
    (λ k. is_among k c.args.axes.now) (range_with_len 0 n)) (omega arith)
