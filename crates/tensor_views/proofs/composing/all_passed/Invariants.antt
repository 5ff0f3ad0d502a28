use Rattle.std.proofs.Common.{◌≡◌, map, take, length, vec_capacity}
use Rattle.tensor_views.specs.private.Tracing.{passed}
use Rattle.tensor_views.proofs.composing.all_passed.Given as goal

abbrev pub invariant-loop-trace : goal.invariant-loop-trace
invariant-loop-trace l =
    (l.after.items ≡ map (passed l.first) (take l.trace-index l.traces)) × (vec_capacity l.after ≡ length l.traces)
