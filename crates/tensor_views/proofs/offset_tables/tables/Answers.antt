use Rattle.std.proofs.Common.{◌≡◌, length, sym, subst, true, arith}
use Rattle.tensor_views.specs.Offsets.{HasTables}
use Rattle.tensor_terms.specs.Reduction.{are_axes}
use Rattle.tensor_terms.specs.Merged.{others}
use Rattle.tensor_views.proofs.OffsetTables.{kept-others, has_tables}
use Rattle.tensor_terms.proofs.OtherAxes.{are_axes-others}
use Rattle.tensor_terms.proofs.DimsAt.{size_of-dims_at-le}
use Rattle.tensor_views.proofs.offset_tables.tables.Goals as goal

pub offsets-requires : goal.offsets-requires
offsets-requires c =
    subst (λ axes. are_axes (length c.args.dims.now) axes ≡ true)
    (sym (kept-others c.args.axes.now c.args.dims.now _ _ _ c.as_slice-rank.ensures.value
    c.as_slice.ensures.value c.others-kept.ensures))
    (are_axes-others c.args.axes.now (length c.args.dims.now))

pub returns : goal.returns
returns c =
    let axes = c.args.axes.now in
    let ds = c.args.dims.now in
    let starts = c.in_ok-starts.starts.items in
    let offsets = c.in_ok-offsets.field-0.items in
    let has : HasTables starts offsets axes ds = has_tables starts offsets _ axes ds c.requires
    (kept-others axes ds _ _ _ c.as_slice-rank.ensures.value c.as_slice.ensures.value
    c.others-kept.ensures)
    (record { len = c.in_ok-starts.ensures.len; each = c.in_ok-starts.ensures.each })
    (record { len = c.in_ok-offsets.ensures.len; each = c.in_ok-offsets.ensures.each }) in
    record {
      tables = has;
      few = omega (
        arith,
        c.as_slice-rank.ensures.legal.elements,
        has.rows.len,
        size_of-dims_at-le (others axes (length ds)) ds (are_axes-others axes (length ds)),
      );
      short = omega (
        arith,
        c.as_slice-rank.ensures.legal.elements,
        has.values.len,
        size_of-dims_at-le axes ds c.requires,
      );
    }
