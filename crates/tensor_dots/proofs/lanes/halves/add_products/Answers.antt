use Rattle.std.proofs.Common.{◌+◌, ◌*◌, ◌%◌, ◌^◌, pos, ◌+ℤ◌, ◌*ℤ◌, map, to_z, of_z, ap, ◌∙◌}
use Rattle.std.specs.Int.{w64}
use Rattle.tensor_values.specs.Values.{value_in}
use Rattle.tensor_shape.specs.Wrap.{wrap}
use Rattle.tensor_dots.specs.Halves.{low_half, high_half, word_in, joined}
use Rattle.tensor_dots.proofs.HalfProducts.{halves-next}
use Rattle.tensor_dots.proofs.SimdLanes.{lanes-bits, value_in-lanes}
use Rattle.tensor_dots.proofs.HalfLanes.{joined-bits}
use Rattle.tensor_dots.proofs.lanes.halves.add_products.Goals as goal

pub add_low-requires-clause-sums : goal.add_low-requires-clause-sums
add_low-requires-clause-sums c = lanes-bits c.args.low c.requires.low

pub add_low-requires-clause-x : goal.add_low-requires-clause-x
add_low-requires-clause-x c = lanes-bits c.args.x c.requires.x

pub add_low-requires-clause-y : goal.add_low-requires-clause-y
add_low-requires-clause-y c = lanes-bits c.args.y c.requires.y

pub add_crossed-requires-clause-x : goal.add_crossed-requires-clause-x
add_crossed-requires-clause-x c = lanes-bits c.args.x c.requires.x

pub add_crossed-requires-clause-y : goal.add_crossed-requires-clause-y
add_crossed-requires-clause-y c = lanes-bits c.args.y c.requires.y

pub returns-clause-low : goal.returns-clause-low
returns-clause-low c = lanes-bits c.add_low.result c.add_low.ensures.lanes

pub returns-clause-each : goal.returns-clause-each
returns-clause-each c r h =
    let s = value_in (map (to_z w64) (map (of_z w64) c.args.low)) r in
    let x = value_in (map (to_z w64) (map (of_z w64) c.args.x)) r in
    let y = value_in (map (to_z w64) (map (of_z w64) c.args.y)) r in
    let w = word_in c.args.crossed (2 * r) in
    let v = word_in c.args.crossed (2 * r + 1) in
    let w' = word_in c.add_crossed.result (2 * r) in
    let v' = word_in c.add_crossed.result (2 * r + 1) in
    let next = wrap (s +ℤ pos (low_half x * low_half y)) in
    joined-bits c.add_low.result c.add_crossed.result r c.add_low.ensures.lanes h
    ∙ ap (λ z. wrap (z +ℤ pos (2 ^ 32 * (w' + v')))) (c.add_low.ensures.each r h)
    ∙ ap (λ n. wrap (next +ℤ pos (2 ^ 32 * (n + v')))) (c.add_crossed.ensures.low r h)
    ∙ ap (λ n. wrap (next +ℤ pos (2 ^ 32 * ((w + low_half x * high_half y) % 2 ^ 32 + n)))) (c.add_crossed.ensures.high r h)
    ∙ halves-next s x y w v ((lanes-bits c.args.low c.requires.low).1 r h) ((lanes-bits c.args.x c.requires.x).1 r h)
    ((lanes-bits c.args.y c.requires.y).1 r h)
    ∙ ap (λ z. wrap (z +ℤ (x *ℤ y))) (joined-bits c.args.low c.args.crossed r c.requires.low h)
    ∙ ap (λ z. wrap (joined c.args.low c.args.crossed r +ℤ (z *ℤ y))) (value_in-lanes c.args.x c.requires.x r h)
    ∙ ap (λ z. wrap (joined c.args.low c.args.crossed r +ℤ (value_in c.args.x r *ℤ z))) (value_in-lanes c.args.y c.requires.y r h)
