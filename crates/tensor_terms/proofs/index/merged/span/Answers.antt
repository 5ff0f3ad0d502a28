use Rattle.std.proofs.Common.{◌≡◌, ◌+◌, ◌-◌, ◌*◌, get_or, ap, sym, ◌∙◌, arith}
use Rattle.std.specs.List.{range_with_len}
use Rattle.tensor_shape.specs.Index.{size_of}
use Rattle.tensor_terms.specs.Merged.{dims_at}
use Rattle.tensor_terms.proofs.Splits.{span-more, span-le}
use Rattle.tensor_terms.proofs.index.merged.span.Goals as goal

pub overflow_mul-span : goal.overflow_mul-span
overflow_mul-span c =
    let ds = c.args.sizes.now in
    let axis = c.loop-axis.axis in
    let more = span-more ds c.args.from axis (omega arith) in
    let few = span-le ds c.args.from (axis + 1 - c.args.from) (omega arith) in
    let here : c.loop-axis.span * get_or ds axis 0 ≡ size_of
    (dims_at (range_with_len c.args.from (axis - c.args.from)) ds) * get_or ds axis 0 =
    ap (λ n. n * get_or ds axis 0) c.loop-axis.invariant in
    omega (arith, more, few, here, c.requires.legal.elements)

pub loop-axis-preserved : goal.loop-axis-preserved
loop-axis-preserved c =
    let ds = c.args.sizes.now in
    let axis = c.loop-axis.axis in
    ap (λ n. n * get_or ds axis 0) c.loop-axis.invariant
    ∙ sym (span-more ds c.args.from axis (omega arith))

pub returns-clause-small : goal.returns-clause-small
returns-clause-small c =
    omega (
      arith,
      c.loop-axis.invariant,
      span-le c.args.sizes.now c.args.from (c.loop-axis.axis - c.args.from) (omega arith),
      c.requires.legal.elements,
    )
