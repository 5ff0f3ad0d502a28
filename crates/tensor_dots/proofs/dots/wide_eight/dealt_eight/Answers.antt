use Rattle.std.proofs.Common.{◌≡◌, ◌+◌, ◌*◌, ◌/◌, ◌%◌, slice_index, arith}
use Rattle.std.proofs.lemmas.Int.{to_z-of_z}
use Rattle.tensor_values.specs.Values.{value_in}
use Rattle.tensor_dots.specs.Products.{with_product}
use Rattle.tensor_dots.specs.private.RowPairs.{pair_product}
use Rattle.tensor_dots.proofs.ProductSums.{wrap-next}
use Rattle.tensor_dots.proofs.dots.wide_eight.dealt_eight.Goals as goal

pub loop-q-preserved : goal.loop-q-preserved
loop-q-preserved c t h =
    let q = c.loop-q.q in
    let pair = c.args.pair.now in
    let row = t % 2 * 4 + t / 2 in
    let f = pair_product pair (c.args.k + row) in
    let sum = c.add_eight.ensures t h in
    let here : pair.first.start + slice_index pair.first.offsets.now q + c.args.k + row
    ≡ pair.first.start + (c.args.k + row) + slice_index pair.first.offsets.now q = omega arith in
    let added : value_in c.add_eight.new.sums t ≡ with_product (value_in c.loop-q.sums t) (f q) =
    grind (arith, to_z-of_z, sum, here) in
    wrap-next f q (value_in c.loop-q.sums t) (value_in c.add_eight.new.sums t)
    (c.loop-q.invariant t h) added
