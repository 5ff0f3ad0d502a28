use Rattle.std.proofs.Common.{◌≡◌, ◌-ℤ◌, rules, ap, ◌∙◌, arith}
use Rattle.std.proofs.lemmas.Int.{wraps}
use Rattle.tensor_shape.specs.Wrap.{wrap}
use Rattle.tensor_values.specs.Values.{value_in}
use Rattle.tensor_kernels.proofs.Congruence.{wrap-wrap}
use Rattle.tensor_dots.proofs.ListWrites.{stored, push-next}
use Rattle.tensor_kernels.proofs.tiling.strassen.factors.difference.Goals as goal

pub loop-p-preserved : goal.loop-p-preserved
loop-p-preserved c =
    let x = c.args.x.now in
    let y = c.args.y.now in
    let p = c.loop-p.p in
    let is : c.minus.result ≡ wrap (value_in x p -ℤ value_in y p) = search (rules, wraps) in
    record {
      each = rw c.push_reserved.ensures.items
          (push-next (λ k. wrap (value_in x k -ℤ value_in y k)) c.loop-p.cells.items _ p
          (omega arith) c.loop-p.invariant.each (stored c.minus.result _ is ∙ is));
      len = omega (arith, c.push_reserved.ensures.len, c.loop-p.invariant.len);
      capacity = c.push_reserved.ensures.capacity ∙ c.loop-p.invariant.capacity;
    }

pub returns : goal.returns
returns c = record {
  panels = c.in_ok-panels.ensures.panels;
  each = λ p below. c.in_ok-panels.ensures.each p below
      ∙ ap wrap (c.loop-p.invariant.each p (omega (arith, below)))
      ∙ wrap-wrap (value_in c.args.x.now p -ℤ value_in c.args.y.now p);
}
