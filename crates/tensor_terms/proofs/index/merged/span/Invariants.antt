-- The span of the axes so far.
use Rattle.std.proofs.Common.{◌≡◌, ◌-◌}
use Rattle.std.specs.List.{range_with_len}
use Rattle.tensor_shape.specs.Index.{size_of}
use Rattle.tensor_terms.specs.Merged.{dims_at}
use Rattle.tensor_terms.proofs.index.merged.span.Given as goal

abbrev pub invariant-loop-axis : goal.invariant-loop-axis
invariant-loop-axis l = l.span ≡ size_of (dims_at (range_with_len l.from (l.axis - l.from)) l.sizes)
