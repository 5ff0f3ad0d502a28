use Rattle.std.proofs.Common.{◌≡◌, slice_index, length, ap, ◌∙◌, arith}
use Rattle.std.proofs.lemmas.List.FromFn.{get_or-range_with_len}
use Rattle.tensor_ops.proofs.FirstAxes.{are_range, length-first}
use Rattle.tensor_ops.proofs.operands.strips.strip_width.Goals as goal

pub span-requires-clause-within : goal.span-requires-clause-within
span-requires-clause-within c =
    let axes = c.args.axes.now in
    let first = are_range axes (λ i below. c.loop-k.invariant i (omega arith)) in
    omega (
      arith,
      length-first (length c.args.dims.now) axes c.requires first,
      ap length c.as_slice.ensures.value,
    )

pub returns-then-axes-k-clause-value : goal.returns-then-axes-k-clause-value
returns-then-axes-k-clause-value c = λ first.
    let axes = c.args.axes.now in
    let k = c.loop-k.k in
    let same : slice_index axes k ≡ k =
    ap (λ l. slice_index l k) first
    ∙ get_or-range_with_len 0 (length axes) k 0 (omega arith) ∙ omega arith in
    absurd (omega (arith, same))

pub returns-clause-first : goal.returns-clause-first
returns-clause-first c = λ some.
    are_range c.args.axes.now (λ i below. c.loop-k.invariant i (omega arith))
