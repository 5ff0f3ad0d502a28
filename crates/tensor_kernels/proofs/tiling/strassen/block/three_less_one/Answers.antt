use Rattle.std.proofs.Common.{◌≡◌, ◌+◌, ◌+ℤ◌, ◌-ℤ◌, rules, ◌∙◌, arith, length-set}
use Rattle.std.proofs.lemmas.Int.{wraps}
use Rattle.tensor_shape.specs.Wrap.{wrap}
use Rattle.tensor_values.specs.Values.{value_in}
use Rattle.tensor_dots.proofs.ListWrites.{stored, set-next}
use Rattle.tensor_kernels.proofs.tiling.strassen.block.three_less_one.Goals as goal

pub loop-t-preserved : goal.loop-t-preserved
loop-t-preserved c =
    let x = c.args.x.now in
    let y = c.args.y.now in
    let z = c.args.z.now in
    let w = c.args.w.now in
    let k = c.args.k in
    let t = c.loop-t.t in
    let sums = c.loop-t.sums in
    let is : c.plus_minus.result ≡ wrap (wrap (wrap (value_in x (k + t) +ℤ value_in y (k + t))
    +ℤ value_in z (k + t)) -ℤ value_in w (k + t)) = search (rules, wraps) in
    record {
      len = simp length-set (c.loop-t.invariant.len);
      done = set-next (λ s. wrap (wrap (wrap (value_in x (k + s) +ℤ value_in y (k + s))
          +ℤ value_in z (k + s)) -ℤ value_in w (k + s))) sums t _
          (omega (arith, c.loop-t.invariant.len))
          c.loop-t.invariant.done (stored c.plus_minus.result _ is ∙ is);
    }
