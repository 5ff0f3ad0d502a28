use Rattle.std.proofs.Common.{ℤ, pos, get_or, ap, sym, ◌∙◌}
use Rattle.tensor_loops.specs.Loops.{either_way}
use Rattle.tensor_loops.proofs.Chains.{chained-next, no_link}
use Rattle.tensor_loops.proofs.loops.chain.combine_chain.Goals as goal

pub loop-link-preserved : goal.loop-link-preserved
loop-link-preserved c =
    let links = c.args.links.now in
    let i = c.loop-link.link-index in
    let link = get_or links i no_link in
    let inv = c.loop-link.invariant in
    record {
      len = c.combine.ensures.len;
      each = λ k below.
          let y : ℤ = get_or c.args.operand.now k (pos 0) in
          c.combine.ensures.each k below
          ∙ ap (λ x. either_way link.operation link.swapped x y) (inv.each k below)
          ∙ sym (chained-next links i no_link (get_or c.args.values.now k (pos 0)) y c.loop-link-test.true);
    }
