use Rattle.std.proofs.Common.{◌≡◌, ◌<◌, ℕ, List, length, get_or, ap, sym, ◌∙◌, arith}
use Rattle.std.proofs.lemmas.List.{get_or-map, length-map}
use Rattle.std.proofs.lemmas.Result.{IfOk-weaker}
use Rattle.tensor_shape.specs.Index.{strides_from}
use Rattle.tensor_terms.specs.Merged.{dims_at}
use Rattle.tensor_terms.proofs.Dropped.{length-axes, are_legal-axes}
use Rattle.tensor_terms.proofs.Known.{IsLegal-are_legal}
use Rattle.tensor_terms.proofs.OtherAxes.{get_or-are_axes}
use Rattle.tensor_views.proofs.Stepping.{length-strides_from, strides_from-short, offset_of-stepped}
use Rattle.tensor_views.proofs.Steps.{offset_of-below-bulk_of}
use Rattle.tensor_views.proofs.offset_tables.offsets.Goals as goal

pub shuffled-sizes-requires-clause-few : goal.shuffled-sizes-requires-clause-few
shuffled-sizes-requires-clause-few c =
    omega (
      arith,
      length-axes (length c.args.dims.now) c.args.axes.now c.requires,
      c.as_slice.ensures.legal.rank,
    )

pub shuffled-sizes-requires-clause-axes : goal.shuffled-sizes-requires-clause-axes
shuffled-sizes-requires-clause-axes c k within =
    rw c.as_slice.ensures.value
    (get_or-are_axes (length c.args.dims.now) k c.args.axes.now c.requires within)

pub shuffled-steps-requires-clause-axes : goal.shuffled-steps-requires-clause-axes
shuffled-steps-requires-clause-axes c k within =
    omega (
      arith,
      get_or-are_axes (length c.args.dims.now) k c.args.axes.now c.requires within,
      ap length c.as_slice-2.ensures.value,
      ap length c.strides-strides.ensures,
      length-strides_from 1 c.args.dims.now,
    )

-- the sizes and the steps of the axes
sizes-at : (ds axes found sizes items : List ℕ) → found ≡ items → items ≡ dims_at axes sizes
    → sizes ≡ ds → found ≡ dims_at axes ds
sizes-at ds axes found sizes items is made same = is ∙ made ∙ ap (dims_at axes) same

pub stepped_places-requires-clause-legal : goal.stepped_places-requires-clause-legal
stepped_places-requires-clause-legal c =
    rw (sizes-at c.args.dims.now c.args.axes.now _ _ _ c.as_slice-3.ensures.value
    c.shuffled-sizes.ensures c.as_slice.ensures.value)
    (IsLegal-are_legal (dims_at c.args.axes.now c.args.dims.now) (are_legal-axes c.args.dims.now
    c.args.axes.now c.as_slice.ensures.legal c.requires))

pub stepped_places-requires-clause-short : goal.stepped_places-requires-clause-short
stepped_places-requires-clause-short c k within =
    let ds = c.args.dims.now in
    let axes = c.args.axes.now in
    let sizes = sizes-at ds axes _ _ _ c.as_slice-3.ensures.value c.shuffled-sizes.ensures
    c.as_slice.ensures.value in
    let steps = sizes-at (strides_from 1 ds) axes _ _ _ c.as_slice-4.ensures.value
    c.shuffled-steps.ensures (c.as_slice-2.ensures.value ∙ c.strides-strides.ensures) in
    let inside : k < length axes =
    omega (arith, ap length sizes, length-map axes (λ s. get_or ds s 0)) in
    let axis : ℕ = get_or axes k 0 in
    let below = get_or-are_axes (length ds) k axes c.requires inside in
    let size = get_or-map (λ s. get_or ds s 0) axes k 0 0 inside in
    let step = get_or-map (λ s. get_or (strides_from 1 ds) s 0) axes k 0 0 inside in
    rw (sizes, steps, size, step)
    (omega (arith, strides_from-short ds axis below, c.as_slice.ensures.legal.elements))

pub returns-clause-each : goal.returns-clause-each
returns-clause-each c =
    let ds = c.args.dims.now in
    let axes = c.args.axes.now in
    let sizes = sizes-at ds axes _ _ _ c.as_slice-3.ensures.value c.shuffled-sizes.ensures
    c.as_slice.ensures.value in
    let steps = sizes-at (strides_from 1 ds) axes _ _ _ c.as_slice-4.ensures.value
    c.shuffled-steps.ensures (c.as_slice-2.ensures.value ∙ c.strides-strides.ensures) in
    IfOk-weaker c.stepped_places.result _ _
    (λ v each p below. each p below ∙ sym (offset_of-stepped axes ds p c.requires))
    (rw (sizes, steps) at c.stepped_places.ensures.each)

pub returns-clause-small : goal.returns-clause-small
returns-clause-small c =
    let ds = c.args.dims.now in
    let axes = c.args.axes.now in
    IfOk-weaker c.stepped_places.result _ _
    (λ v each p below. omega (
      arith,
      each p below,
      offset_of-below-bulk_of axes ds c.requires p below,
      c.as_slice.ensures.legal.elements,
    )) (returns-clause-each c)
