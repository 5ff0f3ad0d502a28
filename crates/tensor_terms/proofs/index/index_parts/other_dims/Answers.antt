use Rattle.std.proofs.Common.{length}
use Rattle.tensor_terms.proofs.OtherAxes.{are_axes-others}
use Rattle.tensor_terms.proofs.index.index_parts.other_dims.Goals as goal

pub dims_at-requires : goal.dims_at-requires
dims_at-requires c =
    rw (c.as_slice.ensures.value, c.all_others.ensures, c.rank.ensures.value)
    (are_axes-others c.args.axes.now (length c.args.dims.now))
