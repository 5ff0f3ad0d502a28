use Rattle.std.proofs.Common.{slice_index, refl, rules, ◌∙◌, arith}
use Rattle.std.proofs.lemmas.Int.{to_z-of_z}
use Rattle.std.specs.Int.{w64}
use mir.Val.{SFits}
use Rattle.tensor_values.specs.Values.{value_in}
use Rattle.tensor_views.proofs.Mapped.{mapped-more, mapped-length}
use Rattle.tensor_loops.proofs.gather.gathered.Goals as goal

pub push_reserved-requires : goal.push_reserved-requires
push_reserved-requires c =
    let inv = c.loop-place.invariant in
    let long = mapped-length (value_in c.args.values.now) c.args.places.now c.loop-place.place-index
    c.loop-place.gathered.items inv.0 c.loop-place.auto.place-index-end in
    omega (arith, long, inv.1, c.loop-place-test.true)

pub loop-place-preserved : goal.loop-place-preserved
loop-place-preserved c =
    let inv = c.loop-place.invariant in
    let place = slice_index c.args.places.now c.loop-place.place-index in
    let fits : SFits w64 (value_in c.args.values.now place) = search rules in
    let pushed = simp to_z-of_z at c.push_reserved.ensures.items in (
      mapped-more (value_in c.args.values.now) c.args.places.now c.loop-place.place-index
          c.loop-place.gathered.items inv.0 0 _ _ c.loop-place-test.true pushed refl,
      c.push_reserved.ensures.capacity ∙ inv.1,
    )
