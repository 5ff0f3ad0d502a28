use Rattle.std.proofs.Common.{◌≡◌, ◌+◌, ◌-◌, ◌<◌, max, min, ap, ◌∙◌, arith}
use Rattle.std.proofs.lemmas.Bool.Decides.{nat_tests}
use Rattle.tensor_kernels.specs.private.Cells.{height_of}
use Rattle.tensor_kernels.specs.private.Tiles.{start_of, end_of}
use Rattle.tensor_kernels.proofs.TilePlaces.{is_in_tile}
use Rattle.tensor_kernels.proofs.tiling.placing.Tile.meets.Goals as goal

-- the first place of both is one
pub returns-clause-met : goal.returns-clause-met
returns-clause-met c met =
    let tile = c.args.self in
    let from = c.args.from in
    let count = c.args.count in
    let is_first : c.max.result ≡ max (start_of tile) from =
    c.max.ensures ∙ ap (λ k. max k from) c.start.ensures in
    let is_last : c.min.result ≡ min (end_of tile) (from + count) =
    c.min.ensures ∙ ap (λ k. min k (from + count)) c.end.ensures in
    let some : c.max.result < c.min.result = grind (arith, nat_tests, met) in
    let k = c.max.result - from in
    let here : from + k ≡ c.max.result = omega (arith, is_first) in
    let place = is_in_tile (height_of tile.height) tile.rows tile.panel tile.column (from + k)
    tile.some (omega (arith, here, is_first)) (omega (arith, here, is_last, some)) in
    (k, omega (arith, here, is_last, some), (place.panel, place.column))
