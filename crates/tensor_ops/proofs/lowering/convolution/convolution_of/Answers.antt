use Rattle.std.proofs.Common.{◌≡◌, ◌<◌, length, subst, sym, ◌∙◌}
use Rattle.std.specs.Cow.{cow_slice_items}
use Rattle.tensor_kernels.specs.Contracting.{contraction_count, contraction_value}
use Rattle.tensor_values.specs.Values.{value_in}
use Rattle.tensor_ops.specs.private.Lowering.{meaning_at}
use Rattle.tensor_kernels.specs.Rows.{row_count, row_length, row_value}
use Rattle.tensor_kernels.specs.Windows.{window_count, window_length, window_value}
use Rattle.tensor_ops.proofs.ConvolvedRows.{rows_dot-convolved}
use Rattle.tensor_ops.proofs.Convolved.{values-convolved}
use Rattle.tensor_ops.proofs.lowering.convolution.convolution_of.Goals as goal

pub returns : goal.returns
returns c =
    let axes = c.args.axes.now in
    let ds = c.args.operand.dims in
    let ks = c.args.kernel.dims in
    let rs = c.unwrap-dims.result in
    let values = cow_slice_items c.in_ok-values.values in
    let factors = cow_slice_items c.in_ok-factors.factors in
    let runs = c.in_ok-runs.runs in
    let row = c.in_ok-row.row in
    let made = c.of_runs.result in
    let whole : contraction_count made ≡ window_count runs = c.of_runs.ensures.count in
    record {
      dims = sym c.convolved_dims.ensures ∙ c.unwrap-dims.ensures;
      values = values-convolved axes ds ks rs (length values) (length factors)
          (contraction_count made) (value_in values) (value_in factors) (contraction_value made)
          (meaning_at c.args.operand.lowered ds) (meaning_at c.args.kernel.lowered ks)
          (sym c.convolved_dims.ensures ∙ c.unwrap-dims.ensures) c.in_ok-values.ensures c.in_ok-factors.ensures
          (whole ∙ c.in_ok-runs.ensures.count)
          (λ p below.
          c.of_runs.ensures.value p
          ∙ rows_dot-convolved axes ds ks rs values factors (window_count runs) (window_length runs)
          (row_count row) (row_length row) (window_value runs) (row_value row) c.in_ok-runs.ensures
          c.in_ok-row.ensures p (subst (λ n. p < n) whole below));
    }
