use Rattle.std.proofs.Common.{◌<◌, length, get_or, refl, ap, sym, ◌∙◌, arith}
use Rattle.std.proofs.lemmas.List.{length-map}
use Rattle.tensor_terms.specs.Term.{broadcast, slice, shuffle, chip, reverse, stride}
use Rattle.tensor_terms.proofs.Known.{moved_dims-unique, broadcast-known, slice-known, shuffle-known, chip-known, reverse-known, stride-known}
use Rattle.tensor_terms.proofs.Moved.{IsIndexOf-moved, dimension-some, length-moved, length-repeated_dims, length-remove}
use Rattle.tensor_terms.proofs.Moved.{get_or-IsIndexOf, get_or-offset_by, get_or-scaled, length-strided_dims, get_or-legal}
use Rattle.tensor_terms.proofs.Permutations.{get_or-permutation}
use Rattle.tensor_terms.proofs.index.moved_index.moved.Goals as goal

pub wrapped-requires-clause-same : goal.wrapped-requires-clause-same
wrapped-requires-clause-same c =
    let shape = rw c.in-Broadcast.is at c.requires.shape in
    let known = broadcast-known c.in-Broadcast.field-0.now c.args.dims.now (rw shape refl) in
    length-moved (broadcast c.in-Broadcast.field-0.now) c.args.dims.now c.args.shape.now _ c.args.index.now shape known.dims c.requires.index
    ∙ length-repeated_dims c.args.dims.now c.in-Broadcast.field-0.now known.long
    ∙ sym (ap length c.as_slice-sizes.ensures.value)

pub wrapped-requires-clause-some : goal.wrapped-requires-clause-some
wrapped-requires-clause-some c = λ k within.
    let shape = rw c.in-Broadcast.is at c.requires.shape in
    rw c.as_slice-sizes.ensures.value
    (dimension-some (broadcast c.in-Broadcast.field-0.now) c.args.dims.now c.args.shape.now c.args.index.now k shape c.requires.index
    (rw c.as_slice-sizes.ensures.value at within))

pub offset_by-requires-clause-same : goal.offset_by-requires-clause-same
offset_by-requires-clause-same c =
    let shape = rw c.in-Slice.is at c.requires.shape in
    let known = slice-known c.in-Slice.offsets.now c.in-Slice.field-1.now c.args.dims.now (rw shape refl) in
    omega (
      arith,
      known.offsets_long,
      known.extents_long,
      length-moved (slice c.in-Slice.offsets.now c.in-Slice.field-1.now) c.args.dims.now c.args.shape.now _ c.args.index.now shape known.dims c.requires.index,
    )

pub offset_by-requires-clause-small : goal.offset_by-requires-clause-small
offset_by-requires-clause-small c = λ k within.
    let shape = rw c.in-Slice.is at c.requires.shape in
    let known = slice-known c.in-Slice.offsets.now c.in-Slice.field-1.now c.args.dims.now (rw shape refl) in
    let inside = IsIndexOf-moved (slice c.in-Slice.offsets.now c.in-Slice.field-1.now) c.args.dims.now c.args.shape.now c.args.index.now shape c.requires.index in
    let in_dims : k < length c.args.dims.now = omega (arith, known.offsets_long) in
    omega (
      arith,
      get_or-offset_by c.in-Slice.offsets.now c.args.index.now k (offset_by-requires-clause-same c) within,
      get_or-IsIndexOf c.args.dims.now _ k inside in_dims,
      get_or-legal c.args.dims.now k c.as_slice-sizes.ensures.legal in_dims,
    )

pub scattered-requires-clause-same : goal.scattered-requires-clause-same
scattered-requires-clause-same c =
    let shape = rw c.in-Shuffle.is at c.requires.shape in
    let known = shuffle-known c.in-Shuffle.order.now c.args.dims.now (rw shape refl) in
    length-moved (shuffle c.in-Shuffle.order.now) c.args.dims.now c.args.shape.now _ c.args.index.now shape known.dims c.requires.index
    ∙ length-map c.in-Shuffle.order.now (λ s. get_or c.args.dims.now s 0)

pub scattered-requires-clause-axes : goal.scattered-requires-clause-axes
scattered-requires-clause-axes c = λ k within.
    let shape = rw c.in-Shuffle.is at c.requires.shape in
    let known = shuffle-known c.in-Shuffle.order.now c.args.dims.now (rw shape refl) in
    rw c.as_slice-sizes.ensures.value
    (get_or-permutation (length c.args.dims.now) c.in-Shuffle.order.now k known.long known.all within)

pub inserted-requires-clause-few : goal.inserted-requires-clause-few
inserted-requires-clause-few c =
    let shape = rw c.in-Chip.is at c.requires.shape in
    let known = chip-known c.in-Chip.offset c.in-Chip.axis c.args.dims.now (rw shape refl) in
    omega (
      arith,
      length-moved (chip c.in-Chip.offset c.in-Chip.axis) c.args.dims.now c.args.shape.now _ c.args.index.now shape known.dims c.requires.index,
      length-remove c.args.dims.now c.in-Chip.axis known.in_rank,
      c.as_slice-sizes.ensures.legal.rank,
    )

pub mirrored-requires-clause-same : goal.mirrored-requires-clause-same
mirrored-requires-clause-same c =
    let shape = rw c.in-Reverse.is at c.requires.shape in
    let known = reverse-known c.in-Reverse.flags.now c.args.dims.now (rw shape refl) in
    length-moved (reverse c.in-Reverse.flags.now) c.args.dims.now c.args.shape.now _ c.args.index.now shape known.dims c.requires.index
    ∙ sym (ap length c.as_slice-sizes.ensures.value)

pub scaled-requires-clause-same : goal.scaled-requires-clause-same
scaled-requires-clause-same c =
    let shape = rw c.in-Stride.is at c.requires.shape in
    let known = stride-known c.in-Stride.steps.now c.args.dims.now (rw shape refl) in
    omega (
      arith,
      known.long,
      length-strided_dims c.args.dims.now c.in-Stride.steps.now known.long,
      length-moved (stride c.in-Stride.steps.now) c.args.dims.now c.args.shape.now _ c.args.index.now shape known.dims c.requires.index,
    )

pub scaled-requires-clause-small : goal.scaled-requires-clause-small
scaled-requires-clause-small c = λ k within.
    let shape = rw c.in-Stride.is at c.requires.shape in
    let known = stride-known c.in-Stride.steps.now c.args.dims.now (rw shape refl) in
    let inside = IsIndexOf-moved (stride c.in-Stride.steps.now) c.args.dims.now c.args.shape.now c.args.index.now shape c.requires.index in
    let in_dims : k < length c.args.dims.now = omega (arith, known.long) in
    omega (
      arith,
      get_or-scaled c.in-Stride.steps.now c.args.index.now k (scaled-requires-clause-same c) within,
      get_or-IsIndexOf c.args.dims.now _ k inside in_dims,
      get_or-legal c.args.dims.now k c.as_slice-sizes.ensures.legal in_dims,
    )

pub mirrored-requires-clause-below : goal.mirrored-requires-clause-below
mirrored-requires-clause-below c = λ k within.
    let shape = rw c.in-Reverse.is at c.requires.shape in
    let known = reverse-known c.in-Reverse.flags.now c.args.dims.now (rw shape refl) in
    let same = moved_dims-unique (reverse c.in-Reverse.flags.now) c.args.dims.now c.args.shape.now _ shape known.dims in
    let index = rw same at c.requires.index in
    rw c.as_slice-sizes.ensures.value
    (get_or-IsIndexOf c.args.dims.now c.args.index.now k index (rw c.as_slice-sizes.ensures.value at within))
