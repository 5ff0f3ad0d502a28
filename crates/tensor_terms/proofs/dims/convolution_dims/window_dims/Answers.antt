use Rattle.std.proofs.Common.{◌≡◌, ◌-◌, length, get_or, ap, ◌∙◌, arith}
use Rattle.tensor_terms.specs.Convolution.{window_dims}
use Rattle.tensor_terms.proofs.Moved.{get_or-legal}
use Rattle.tensor_terms.proofs.OtherAxes.{get_or-are_axes}
use Rattle.tensor_terms.proofs.UnderKernel.{get_or-fit_along, are_legal-window_dims}
use Rattle.tensor_terms.proofs.dims.convolution_dims.window_dims.Goals as goal

pub bounds-sizes-axis : goal.bounds-sizes-axis
bounds-sizes-axis c =
    rw c.as_slice-sizes.ensures.value (get_or-are_axes (length c.args.dims.now) (c.loop-k.k - 1)
    c.args.axes.now c.requires.axes (omega arith))

pub offset_bounds-sizes-axis : goal.offset_bounds-sizes-axis
offset_bounds-sizes-axis c =
    omega (
      arith,
      c.as_slice-sizes.ensures.legal.rank,
      get_or-are_axes (length c.args.dims.now) (c.loop-k.k - 1) c.args.axes.now c.requires.axes
          (omega arith),
    )

pub overflow_sub-sizes : goal.overflow_sub-sizes
overflow_sub-sizes c =
    rw c.as_slice-sizes.ensures.value (get_or-fit_along c.args.axes.now c.args.kernel.now
    c.args.dims.now (c.loop-k.k - 1) c.requires.fits c.requires.kernel (omega arith)).1

pub overflow_add-sizes : goal.overflow_add-sizes
overflow_add-sizes c =
    let axis = get_or c.args.axes.now (c.loop-k.k - 1) 0 in
    let few = get_or-legal c.args.dims.now axis c.as_slice-sizes.ensures.legal
    (get_or-are_axes (length c.args.dims.now) (c.loop-k.k - 1) c.args.axes.now c.requires.axes
    (omega arith)) in
    rw c.as_slice-sizes.ensures.value (omega (arith, few))

pub offset_bounds-deref_mut-axis : goal.offset_bounds-deref_mut-axis
offset_bounds-deref_mut-axis c =
    omega (
      arith,
      c.as_slice-sizes.ensures.legal.rank,
      get_or-are_axes (length c.args.dims.now) (c.loop-k.k - 1) c.args.axes.now c.requires.axes
          (omega arith),
    )

pub bounds-deref_mut-axis : goal.bounds-deref_mut-axis
bounds-deref_mut-axis c =
    omega (
      arith,
      ap length c.deref_mut.ensures.value,
      ap length c.as_slice-sizes.ensures.value,
      c.loop-k.invariant.1,
      get_or-are_axes (length c.args.dims.now) (c.loop-k.k - 1) c.args.axes.now c.requires.axes
          (omega arith),
    )

pub unwrap-requires : goal.unwrap-requires
unwrap-requires c =
    let all : c.loop-k.k ≡ 0 = omega arith in
    let whole = c.as_slice.ensures.value ∙ rw all at c.loop-k.invariant.0
    ∙ ap (window_dims c.args.axes.now c.args.kernel.now) c.as_slice-sizes.ensures.value in
    let legal = are_legal-window_dims c.args.axes.now c.args.kernel.now c.args.dims.now
    c.as_slice-sizes.ensures.legal c.requires.axes c.requires.fits in
    let found = rw (whole, legal) at c.legal_dims.ensures in
    cc
