use Rattle.std.proofs.Common.{◌≡◌, ◌+◌, ◌*◌, ◌/◌, ◌%◌, ◌<◌, ◌∙◌, length-set, arith}
use Rattle.tensor_values.specs.Values.{value_in}
use Rattle.tensor_dots.specs.private.RowPairs.{pair_dot}
use Rattle.tensor_dots.proofs.ListWrites.{stored, set-next}
use Rattle.tensor_dots.proofs.dots.wide_eight.wide_eight.Goals as goal

pub loop-t-preserved : goal.loop-t-preserved
loop-t-preserved c =
    let t = c.loop-t.t in
    let s = t % 4 * 2 + t / 4 in
    let few : s < 8 = omega arith in
    let row : s % 2 * 4 + s / 2 ≡ t = omega arith in
    let is = rw row at (c.dealt_eight-dealt.ensures s few) in (
      simp length-set (c.loop-t.invariant.0),
      set-next
          (λ s. pair_dot c.args.pair.now (c.args.k + s))
          c.loop-t.sums t _ (omega arith) c.loop-t.invariant.1
          (stored (value_in c.dealt_eight-dealt.result s) _ is ∙ is),
    )
