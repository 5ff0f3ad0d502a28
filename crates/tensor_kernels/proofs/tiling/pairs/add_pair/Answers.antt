use Rattle.std.proofs.Common.{◌≡◌, ◌+◌, ◌+ℤ◌, ◌*ℤ◌, map, to_z, of_z, ap, ◌∙◌}
use Rattle.std.specs.Int.{w64}
use Rattle.tensor_values.specs.Values.{value_in}
use Rattle.tensor_shape.specs.Wrap.{wrap}
use Rattle.tensor_dots.specs.Halves.{joined}
use Rattle.tensor_dots.proofs.SimdLanes.{lanes-bits, value_in-lanes}
use Rattle.tensor_dots.proofs.HalfLanes.{joined-bits}
use Rattle.tensor_kernels.proofs.PairLanes.{wrap-product}
use Rattle.tensor_kernels.proofs.tiling.pairs.add_pair.Goals as goal

pub sums_of-first-requires-clause-x : goal.sums_of-first-requires-clause-x
sums_of-first-requires-clause-x c = lanes-bits c.args.x c.requires.x

pub sums_of-first-requires-clause-y : goal.sums_of-first-requires-clause-y
sums_of-first-requires-clause-y c = lanes-bits _ c.spread.ensures.lanes

pub sums_of-second-requires-clause-x : goal.sums_of-second-requires-clause-x
sums_of-second-requires-clause-x c = lanes-bits c.args.y c.requires.y

pub sums_of-second-requires-clause-y : goal.sums_of-second-requires-clause-y
sums_of-second-requires-clause-y c = lanes-bits _ c.spread-2.ensures.lanes

pub add_products-requires-clause-low : goal.add_products-requires-clause-low
add_products-requires-clause-low c = lanes-bits c.args.low c.requires.low

pub add_products-requires-clause-x : goal.add_products-requires-clause-x
add_products-requires-clause-x c = lanes-bits _ c.sums_of-first.ensures.lanes

pub add_products-requires-clause-y : goal.add_products-requires-clause-y
add_products-requires-clause-y c = lanes-bits _ c.sums_of-second.ensures.lanes

pub returns-clause-each : goal.returns-clause-each
returns-clause-each c r h =
    let b = c.args.b.now in
    let so_far = joined c.args.low c.args.crossed r in
    let x = value_in c.args.x r +ℤ value_in b (c.args.i + 1) in
    let y = value_in c.args.y r +ℤ value_in b c.args.i in
    let first : value_in (map (to_z w64) (map (of_z w64) c.sums_of-first.result)) r ≡ wrap x =
    value_in-lanes c.sums_of-first.result c.sums_of-first.ensures.lanes r h
    ∙ c.sums_of-first.ensures.each r h
    ∙ ap (λ v. wrap (v +ℤ value_in (map (to_z w64) (map (of_z w64) c.spread.result)) r))
    (value_in-lanes c.args.x c.requires.x r h)
    ∙ ap (λ v. wrap (value_in c.args.x r +ℤ v))
    (value_in-lanes c.spread.result c.spread.ensures.lanes r h ∙ c.spread.ensures.each r h) in
    let second : value_in (map (to_z w64) (map (of_z w64) c.sums_of-second.result)) r ≡ wrap y =
    value_in-lanes c.sums_of-second.result c.sums_of-second.ensures.lanes r h
    ∙ c.sums_of-second.ensures.each r h
    ∙ ap (λ v. wrap (v +ℤ value_in (map (to_z w64) (map (of_z w64) c.spread-2.result)) r))
    (value_in-lanes c.args.y c.requires.y r h)
    ∙ ap (λ v. wrap (value_in c.args.y r +ℤ v))
    (value_in-lanes c.spread-2.result c.spread-2.ensures.lanes r h ∙ c.spread-2.ensures.each r h) in
    c.add_products.ensures.each r h
    ∙ ap (λ z. wrap (z +ℤ (value_in (map (to_z w64) (map (of_z w64) c.sums_of-first.result)) r
    *ℤ value_in (map (to_z w64) (map (of_z w64) c.sums_of-second.result)) r)))
    (joined-bits c.args.low c.args.crossed r c.requires.low h)
    ∙ ap (λ z. wrap (so_far
    +ℤ (z *ℤ value_in (map (to_z w64) (map (of_z w64) c.sums_of-second.result)) r))) first
    ∙ ap (λ z. wrap (so_far +ℤ (wrap x *ℤ z))) second
    ∙ wrap-product so_far x y
