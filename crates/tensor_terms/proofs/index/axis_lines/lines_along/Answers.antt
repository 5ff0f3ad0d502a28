use Rattle.std.proofs.Common.{◌≡◌, ◌≤◌, ◌+◌, ◌-◌, [], length, remove, ap, sym, ◌∙◌, arith, slice_index}
use Rattle.std.specs.List.{range_with_len}
use Rattle.std.proofs.lemmas.List.{take_rest}
use Rattle.tensor_scans.specs.declared.lines.Lines.{Lines}
use Rattle.tensor_shape.specs.Index.{size_of}
use Rattle.tensor_shape.specs.Legal.{bulk_of}
use Rattle.tensor_shape.proofs.Sizes.{size_of-le-bulk_of}
use Rattle.tensor_terms.specs.AxisLines.{AreLinesAlong}
use Rattle.tensor_terms.specs.Merged.{dims_at}
use Rattle.tensor_terms.proofs.AxisLines.{replaced-removed, values-replaced, values-whole}
use Rattle.tensor_terms.proofs.Legality.{bulk_of-remove}
use Rattle.tensor_terms.proofs.Splits.{dims_at-range, span-le}
use Rattle.tensor_terms.proofs.index.axis_lines.lines_along.Goals as goal

pub returns : goal.returns
returns c =
    let ds = c.args.dims.now in
    let axis = c.args.axis in
    let same : c.as_slice-sizes.result.now ≡ ds = c.as_slice-sizes.ensures.value in
    let long : length c.as_slice-sizes.result.now ≡ length ds = ap length same in
    let whole : axis - 0 ≡ axis = omega arith in
    let lines : Lines = record {
      stride = c.span.result;
      length = slice_index c.as_slice-sizes.result.now axis;
      blocks = c.span-2.result;
    } in
    let along : AreLinesAlong axis ds lines = record {
      stride = c.span.ensures.value
          ∙ ap (λ xs. size_of (dims_at (range_with_len 0 (axis - 0)) xs)) same
          ∙ ap (λ n. size_of (dims_at (range_with_len 0 n) ds)) whole
          ∙ ap size_of (sym (dims_at-range ds 0 axis (omega arith)));
      length = ap (λ xs. slice_index xs axis) same;
      blocks = c.span-2.ensures.value
          ∙ ap (λ xs. size_of (dims_at (range_with_len (axis + 1) (length xs - (axis + 1))) xs))
          same
          ∙ ap size_of (sym (dims_at-range ds (axis + 1) (length ds - (axis + 1)) (omega arith))
          ∙ take_rest ds (axis + 1));
    } in
    let legal : bulk_of ds ≤ 268435456 = c.as_slice-sizes.ensures.legal.elements in
    record {
      along = along;
      short = omega (arith, legal, along.length, span-le ds axis 1 (omega arith));
      few = omega (arith, legal, size_of-le-bulk_of ds, values-whole axis ds lines (omega arith) along);
      few_lines = omega (
        arith,
        legal,
        bulk_of-remove ds axis,
        size_of-le-bulk_of (remove ds axis),
        ap size_of (replaced-removed axis ds),
        values-replaced axis ds [] lines (omega arith) along,
      );
    }
