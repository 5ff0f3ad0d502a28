use Rattle.std.proofs.Common.{◌≡◌, List, ℕ, length, ap, ◌∙◌, subst, arith}
use Rattle.tensor_shape.specs.Index.{IsIndexOf}
use Rattle.tensor_shape.proofs.Places.{length-IsIndexOf}
use Rattle.tensor_terms.specs.Padding.{padded_dims, moved_back}
use Rattle.tensor_terms.proofs.Pads.{pad-known, length-padded_dims, IsIndexOf-moved_back}
use Rattle.tensor_terms.proofs.index.interleaved_index.padded_place.Goals as goal

pub moved_back-requires-clause-index : goal.moved_back-requires-clause-index
moved_back-requires-clause-index c =
    let known = pad-known c.args.pairs.now c.args.dims.now c.requires.dims in
    let shape : c.unwrap-shape.result ≡ padded_dims c.args.pairs.now c.args.dims.now = (cc (known.dims, c.pad_dims.ensures, c.unwrap-shape.ensures)) in
    omega (
      arith,
      ap length c.as_slice-2.ensures.value,
      length-IsIndexOf c.unwrap-shape.result c.index_of-index.result.items c.index_of-index.ensures.index,
      ap length shape,
      length-padded_dims c.args.pairs.now c.args.dims.now known.long,
      known.long,
    )

pub linear-requires : goal.linear-requires
linear-requires c =
    let known = pad-known c.args.pairs.now c.args.dims.now c.requires.dims in
    let shape : c.unwrap-shape.result ≡ padded_dims c.args.pairs.now c.args.dims.now = (cc (known.dims, c.pad_dims.ensures, c.unwrap-shape.ensures)) in
    let items : List ℕ = c.index_of-index.result.items in
    let index : IsIndexOf (padded_dims c.args.pairs.now c.args.dims.now) items = subst (λ l. IsIndexOf l items) shape c.index_of-index.ensures.index in
    let inside = rw (c.as_slice.ensures.value, c.as_slice-2.ensures.value) at c.in_ok-read.ensures.inside in
    rw (c.as_slice-3.ensures.value ∙ c.in_ok-read.ensures.value ∙ ap (moved_back c.args.pairs.now) c.as_slice-2.ensures.value)
    (IsIndexOf-moved_back c.args.pairs.now c.args.dims.now items known.long index inside)
