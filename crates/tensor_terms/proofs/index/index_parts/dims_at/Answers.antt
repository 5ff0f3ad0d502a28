use Rattle.std.proofs.Common.{length, arith}
use Rattle.tensor_terms.proofs.Dropped.{length-axes, are_legal-axes}
use Rattle.tensor_terms.proofs.OtherAxes.{get_or-are_axes}
use Rattle.tensor_terms.proofs.index.index_parts.dims_at.Goals as goal

pub shuffled_dims-requires-clause-few : goal.shuffled_dims-requires-clause-few
shuffled_dims-requires-clause-few c =
    omega (
      arith,
      length-axes (length c.args.dims.now) c.args.axes.now c.requires,
      c.as_slice.ensures.legal.rank,
    )

pub shuffled_dims-requires-clause-axes : goal.shuffled_dims-requires-clause-axes
shuffled_dims-requires-clause-axes c = λ k within.
    rw c.as_slice.ensures.value (get_or-are_axes
    (length c.args.dims.now) k c.args.axes.now c.requires within)

pub unwrap-requires : goal.unwrap-requires
unwrap-requires c =
    let legal = are_legal-axes c.args.dims.now c.args.axes.now c.as_slice.ensures.legal c.requires
    in
    let found = rw (c.as_slice.ensures.value, legal) at c.shuffled_dims.ensures in
    cc
