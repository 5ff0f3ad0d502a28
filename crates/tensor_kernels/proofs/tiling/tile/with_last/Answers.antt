use Rattle.std.proofs.Common.{◌≡◌, ◌+◌, ◌*◌, ◌*ℤ◌, ◌+ℤ◌, ◌<◌, length, ap, ◌∙◌, arith, length-set}
use Rattle.std.proofs.lemmas.Int.{to_z-of_z}
use Rattle.tensor_values.specs.Values.{value_in}
use Rattle.tensor_shape.specs.Wrap.{wrap}
use Rattle.tensor_kernels.specs.private.Cells.{height_of}
use Rattle.tensor_kernels.specs.private.Pairs.{lane}
use Rattle.tensor_dots.specs.Products.{dot}
use Rattle.tensor_kernels.proofs.Heights.{height-low}
use Rattle.tensor_dots.proofs.ListWrites.{stored, set-next}
use Rattle.tensor_dots.proofs.ProductSums.{wrap-next}
use Rattle.tensor_kernels.proofs.tiling.tile.with_last.Goals as goal

pub loop-t-preserved : goal.loop-t-preserved
loop-t-preserved c =
    let h = height_of c.args.height in
    let a = c.args.a.now in
    let b = c.args.b.now in
    let n = c.args.n in
    let t = c.loop-t.t in
    let few : t < h = omega arith in
    let room : t < length c.loop-t.more =
    omega (arith, c.loop-t.invariant.len, height-low c.args.height) in
    let product : c.mul_add.result ≡ wrap (value_in c.args.sums t
    +ℤ (value_in a (c.rows-rows.result * n + t) *ℤ value_in b n)) =
    grind (arith, to_z-of_z) in
    let is : c.mul_add.result ≡ wrap (dot (lane h a t) (value_in b) (n + 1)) =
    wrap-next (λ q. lane h a t q *ℤ value_in b q) n (value_in c.args.sums t) c.mul_add.result
    (c.requires.sums t few)
    (product
    ∙ ap (λ h. wrap (value_in c.args.sums t +ℤ (value_in a (h * n + t) *ℤ value_in b n)))
    c.rows-rows.ensures) in
    record {
      len = simp length-set (c.loop-t.invariant.len);
      done = set-next (λ s. wrap (dot (lane h a s) (value_in b) (n + 1))) c.loop-t.more t _ room
          c.loop-t.invariant.done (stored c.mul_add.result _ is ∙ is);
    }
