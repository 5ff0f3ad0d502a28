use Rattle.std.proofs.Common.{◌≡◌, ℤ, pos, ◌+◌, ◌*◌, ◌<◌, get_or, refl, ◌∙◌, length, rules, arith}
use Rattle.std.proofs.lemmas.Int.{to_z-of_z}
use Rattle.std.proofs.lemmas.List.{length-set}
use Rattle.std.specs.Int.{w64}
use mir.Val.{SFits, to_z, of_z}
use Rattle.tensor_values.specs.Values.{value_in}
use Rattle.tensor_loops.proofs.TiledValues.{in_slab, put-more, put-kept}
use Rattle.tensor_loops.proofs.gather.tiles.Neighbours.put.Goals as goal

pub loop-k-preserved : goal.loop-k-preserved
loop-k-preserved c =
    let out = c.loop-k.out in
    let index = c.args.index in
    let k = c.loop-k.k in
    let stride = c.args.self.stride in
    let inv = c.loop-k.invariant in
    let value : ℤ = get_or c.args.neighbours.now k (pos 0) in
    let fits : SFits w64 value = search rules in
    let put : to_z w64 (of_z w64 value) ≡ value = simp to_z-of_z refl in
    let within : index + k * stride < length out =
    omega (arith, inv.len, c.requires.room, in_slab index k stride c.requires.row (omega arith)) in
    record {
      len = length-set out (index + k * stride) (to_z w64 (of_z w64 value)) ∙ inv.len;
      each = put-more out index k stride (to_z w64 (of_z w64 value)) c.requires.row
          (value_in c.args.neighbours.now) within put inv.each;
      kept = λ i j low other.
          put-kept out index k stride (to_z w64 (of_z w64 value)) c.requires.row i j low other
          ∙ inv.kept i j low other;
    }
