use Rattle.std.proofs.Common.{◌≡◌, ◌*◌, ℕ, List, ap, sym, ◌∙◌, arith}
use Rattle.tensor_shape.specs.Index.{size_of}
use Rattle.tensor_ops.specs.private.Meaning.{meaning}
use Rattle.tensor_ops.specs.private.Lowering.{meaning_at}
use Rattle.tensor_terms.specs.Merged.{dims_at, other_dims}
use Rattle.tensor_ops.proofs.PartValues.{fronted-size, lie-in-runs}
use Rattle.tensor_ops.proofs.Lowerings.{gives-after}
use Rattle.tensor_ops.proofs.part_evaluator.value_runs.ValueRuns.along.Goals as goal

pub invariant_of-result : goal.invariant_of-result
invariant_of-result c =
    let axes : List ℕ = c.args.axes.now in
    let ds : List ℕ = c.args.operand.dims in
    let made = c.in_ok-fronted.fronted in
    let long : c.size-length.result ≡ size_of (dims_at axes ds) =
    c.size-length.ensures.value ∙ ap size_of c.dims_at.ensures in
    let many : c.size-count.result ≡ size_of (other_dims axes ds) =
    c.size-count.ensures.value ∙ ap size_of c.other_dims.ensures in
    let whole : c.size-length.result * c.size-count.result ≡ size_of made.dims =
    ap (λ n. n * c.size-count.result) long ∙ ap (λ n. size_of (dims_at axes ds) * n) many
    ∙ sym (fronted-size axes ds made.dims (meaning_at c.args.operand.lowered ds)
    c.requires.axes c.in_ok-fronted.ensures.dims) in
    record {
      sound = c.in_ok-lowered.ensures.sound;
      whole = c.in_ok-lowered.ensures.count ∙ sym whole;
      few = omega (arith, whole, c.size-values.ensures.value, c.size-values.ensures.small);
    }

pub returns : goal.returns
returns c =
    let axes : List ℕ = c.args.axes.now in
    let ds : List ℕ = c.args.operand.dims in
    let made = c.in_ok-fronted.fronted in
    let lowered = c.in_ok-lowered.lowered in
    let gives = gives-after lowered made.lowered made.dims _ c.in_ok-fronted.ensures.lowered
    c.in_ok-lowered.ensures in
    lie-in-runs axes ds made.dims (meaning_at c.args.operand.lowered ds) c.requires.axes
    c.in_ok-fronted.ensures.dims (meaning lowered) _ _ gives.means
    (c.size-length.ensures.value ∙ ap size_of c.dims_at.ensures)
    (c.size-count.ensures.value ∙ ap size_of c.other_dims.ensures)
