use Rattle.std.proofs.Common.{◌≡◌, ◌∷◌, ◌<◌, ◌*◌, arith}
use Rattle.tensor_loops.proofs.TiledPlaces.{neighbours-along, neighbours-behind}
use Rattle.tensor_loops.proofs.gather.tiles.+neighbours_of.Goals as goal

pub returns-then-axis-ge-TILE : goal.returns-then-axis-ge-TILE
returns-then-axis-ge-TILE t c =
    let axis = c.in-Some.axis.now in
    let split : c.args.axes.now ≡ axis ∷ c.in-Some.slower.now = c.in-Some.ensures.cases.0 in
    let some : 0 < axis.size = omega arith in
    rw split (neighbours-along axis c.in-Some.slower.now c.if-axis-eq1.true c.if-not-axis.true some)

pub returns : goal.returns
returns t c =
    let axis = c.in-Some.axis.now in
    let slower = c.in_ok-neighbours.neighbours in
    let split : c.args.axes.now ≡ axis ∷ c.in-Some.slower.now = c.in-Some.ensures.cases.0 in
    let stride : c.in_ok-stride.stride ≡ slower.stride * axis.size = c.in_ok-stride.ensures.1 in
    let some : 0 < axis.size = omega (arith, c.if-axis-eq0.false) in
    rw (split, stride)
    (neighbours-behind axis c.in-Some.slower.now slower.stride slower.count c.in_ok-neighbours.ensures some)
