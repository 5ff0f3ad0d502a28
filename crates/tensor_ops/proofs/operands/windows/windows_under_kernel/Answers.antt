use Rattle.std.proofs.Common.{◌≡◌, ◌<◌, ℕ, List, length, get_or, ap, subst, ◌∙◌, arith}
use Rattle.std.specs.Cow.{cow_slice_items}
use Rattle.tensor_shape.specs.Index.{size_of, strides_from, index_of}
use Rattle.tensor_shape.proofs.Sizes.{size_of-le-bulk_of}
use Rattle.tensor_terms.specs.Movement.{shuffled_dims}
use Rattle.tensor_values.specs.Values.{value_in}
use Rattle.tensor_views.specs.Stepped.{stepped}
use Rattle.tensor_ops.specs.private.FirstRun.{run_axes, run_width}
use Rattle.tensor_terms.proofs.Dropped.{length-axes}
use Rattle.tensor_terms.proofs.OtherAxes.{get_or-are_axes}
use Rattle.tensor_terms.proofs.Convolutions.{known, length-result}
use Rattle.tensor_ops.proofs.WindowRows.{result-short, kernel-short}
use Rattle.tensor_ops.proofs.WindowRows.{HasSteps, runs-steps, sum_of_steps, sum_of_steps-below}
use Rattle.tensor_views.proofs.Stepping.{length-strides_from}
use Rattle.tensor_terms.proofs.UnderKernel.{size_of-fit_along}
use Rattle.tensor_ops.proofs.operands.windows.windows_under_kernel.Goals as goal

pub prove-unreachable-requires : goal.prove-unreachable-requires
prove-unreachable-requires c =
    c.if-prove.true (omega (
      arith,
      c.len.ensures.value,
      ap length c.strides-strides.ensures,
      length-strides_from 1 c.args.dims.now,
      ap length c.as_slice-sizes.ensures.value,
    ))

pub shuffled-steps-requires-clause-few : goal.shuffled-steps-requires-clause-few
shuffled-steps-requires-clause-few c =
    let is = known c.args.axes.now c.args.dims.now c.args.kernel.now c.args.window_index.now
    c.requires.dims in
    omega (
      arith,
      length-axes (length c.args.dims.now) c.args.axes.now is.legal,
      c.as_slice-sizes.ensures.legal.rank,
    )

pub shuffled-steps-requires-clause-axes : goal.shuffled-steps-requires-clause-axes
shuffled-steps-requires-clause-axes c k within =
    let is = known c.args.axes.now c.args.dims.now c.args.kernel.now c.args.window_index.now
    c.requires.dims in
    omega (
      arith,
      get_or-are_axes (length c.args.dims.now) k c.args.axes.now is.legal within,
      ap length c.as_slice.ensures.value,
      ap length c.strides-strides.ensures,
      length-strides_from 1 c.args.dims.now,
    )

pub stepped_places-requires-clause-rank : goal.stepped_places-requires-clause-rank
stepped_places-requires-clause-rank c =
    omega (
      arith,
      ap length c.as_slice-3.ensures.value,
      ap length c.as_slice-4.ensures.value,
      ap length c.strides-strides.ensures,
      length-strides_from 1 c.args.dims.now,
      length-result c.args.axes.now c.args.dims.now c.args.kernel.now c.args.window_index.now
          c.requires.dims,
    )

pub stepped_places-requires-clause-short : goal.stepped_places-requires-clause-short
stepped_places-requires-clause-short c k within =
    let inside : k < length c.args.window_index.now = rw c.as_slice-3.ensures.value at within in
    let short = result-short c.args.axes.now c.args.dims.now c.args.kernel.now c.args.window_index.now
    c.requires.dims k inside in
    rw (c.as_slice-3.ensures.value, c.as_slice-4.ensures.value, c.strides-strides.ensures)
    (omega (arith, short, c.as_slice-sizes.ensures.legal.elements))

pub stepped_places-requires-2-clause-short : goal.stepped_places-requires-2-clause-short
stepped_places-requires-2-clause-short c k within =
    let inside : k < length c.args.kernel.now = rw c.as_slice-5.ensures.value at within in
    let short = kernel-short c.args.axes.now c.args.dims.now c.args.kernel.now c.args.window_index.now
    c.requires.dims k inside in
    rw (
      c.as_slice-5.ensures.value,
      c.as_slice-6.ensures.value,
      c.shuffled-steps.ensures,
      c.as_slice.ensures.value,
      c.strides-strides.ensures,
    )
    (omega (arith, short, c.as_slice-sizes.ensures.legal.elements))

-- the steps of the kernel's places, from those that were passed
has_steps : (table steps sizes on along : List ℕ) → on ≡ steps → along ≡ sizes
    → length table ≡ size_of along
    → ((p : ℕ) → p < size_of along → get_or table p 0 ≡ stepped on (index_of along p))
    → HasSteps (length table) (λ p. get_or table p 0) steps sizes
has_steps table steps sizes on along is made long each =
    subst (λ ts. HasSteps (length table) (λ p. get_or table p 0) ts sizes) is
    (subst (λ es. HasSteps (length table) (λ p. get_or table p 0) on es) made
    (record { len = long; each = each }))

pub new-requires-clause-inside : goal.new-requires-clause-inside
new-requires-clause-inside c x q row value =
    let axes = c.args.axes.now in
    let ds = c.args.dims.now in
    let ks = c.args.kernel.now in
    let rs = c.args.window_index.now in
    let rows = runs-steps axes ds ks rs c.requires.dims c.in_ok-starts.starts.items _ _ _ _
    (c.as_slice-4.ensures.value ∙ c.strides-strides.ensures) c.as_slice-3.ensures.value
    (c.first_run-first.ensures.axes ∙ ap run_axes c.as_slice-2.ensures.value)
    (c.first_run-first.ensures.width ∙ ap run_width c.as_slice-2.ensures.value)
    c.in_ok-starts.ensures.len c.in_ok-starts.ensures.each in
    let under = has_steps c.in_ok-offsets.offsets.items (shuffled_dims (strides_from 1 ds) axes) ks
    _ _ (c.as_slice-6.ensures.value ∙ c.shuffled-steps.ensures
    ∙ ap (λ ts. shuffled_dims ts axes) (c.as_slice.ensures.value ∙ c.strides-strides.ensures))
    c.as_slice-5.ensures.value c.in_ok-offsets.ensures.len c.in_ok-offsets.ensures.each in
    omega (
      arith,
      c.requires.values,
      sum_of_steps-below axes ds ks rs c.requires.dims x q (omega (arith, rows.len))
          (omega (arith, under.len)) _ _ _ _ rows under,
    )

pub new-requires-clause-few : goal.new-requires-clause-few
new-requires-clause-few c =
    let axes = c.args.axes.now in
    let ds = c.args.dims.now in
    let ks = c.args.kernel.now in
    let rs = c.args.window_index.now in
    let rows = runs-steps axes ds ks rs c.requires.dims c.in_ok-starts.starts.items _ _ _ _
    (c.as_slice-4.ensures.value ∙ c.strides-strides.ensures) c.as_slice-3.ensures.value
    (c.first_run-first.ensures.axes ∙ ap run_axes c.as_slice-2.ensures.value)
    (c.first_run-first.ensures.width ∙ ap run_width c.as_slice-2.ensures.value)
    c.in_ok-starts.ensures.len c.in_ok-starts.ensures.each in
    omega (arith, rows.len, size_of-le-bulk_of rs, c.as_slice-2.ensures.legal.elements)

pub new-requires-clause-some : goal.new-requires-clause-some
new-requires-clause-some c =
    let axes = c.args.axes.now in
    let ds = c.args.dims.now in
    let ks = c.args.kernel.now in
    let rs = c.args.window_index.now in
    let is = known axes ds ks rs c.requires.dims in
    let under = has_steps c.in_ok-offsets.offsets.items (shuffled_dims (strides_from 1 ds) axes) ks
    _ _ (c.as_slice-6.ensures.value ∙ c.shuffled-steps.ensures
    ∙ ap (λ ts. shuffled_dims ts axes) (c.as_slice.ensures.value ∙ c.strides-strides.ensures))
    c.as_slice-5.ensures.value c.in_ok-offsets.ensures.len c.in_ok-offsets.ensures.each in
    omega (arith, under.len, size_of-fit_along axes ks ds is.fits is.ranks)

pub returns : goal.returns
returns c =
    let axes = c.args.axes.now in
    let ds = c.args.dims.now in
    let ks = c.args.kernel.now in
    let rs = c.args.window_index.now in
    let rows = runs-steps axes ds ks rs c.requires.dims c.in_ok-starts.starts.items _ _ _ _
    (c.as_slice-4.ensures.value ∙ c.strides-strides.ensures) c.as_slice-3.ensures.value
    (c.first_run-first.ensures.axes ∙ ap run_axes c.as_slice-2.ensures.value)
    (c.first_run-first.ensures.width ∙ ap run_width c.as_slice-2.ensures.value)
    c.in_ok-starts.ensures.len c.in_ok-starts.ensures.each in
    let under = has_steps c.in_ok-offsets.offsets.items (shuffled_dims (strides_from 1 ds) axes) ks
    _ _ (c.as_slice-6.ensures.value ∙ c.shuffled-steps.ensures
    ∙ ap (λ ts. shuffled_dims ts axes) (c.as_slice.ensures.value ∙ c.strides-strides.ensures))
    c.as_slice-5.ensures.value c.in_ok-offsets.ensures.len c.in_ok-offsets.ensures.each in
    record {
      count = c.new.ensures.count ∙ rows.len;
      len = c.new.ensures.len ∙ under.len;
      each = λ x q row value. c.new.ensures.each x q
          ∙ ap (λ p. value_in (cow_slice_items c.args.values) p)
          (sum_of_steps axes ds ks rs c.requires.dims x q
          (omega (arith, c.new.ensures.count, rows.len))
          (omega (arith, c.new.ensures.len, under.len)) _ _ _ _ rows under);
    }
