use Rattle.std.proofs.Common.{◌≡◌, pos, ◌+◌, get_or, ap, sym, ◌∙◌, arith}
use Rattle.tensor_loops.specs.Loops.{either_way}
use Rattle.tensor_views.specs.View.{place_in}
use Rattle.tensor_loops.proofs.loops.combine.Goals as goal

pub returns-clause-each : goal.returns-clause-each
returns-clause-each c = λ k below.
    let o = either_way c.args.link.operation c.args.link.swapped in
    let start : 0 + k ≡ k = omega arith in
    ap (λ j. get_or c.combine_row.new.values j (pos 0)) (sym start)
    ∙ c.combine_row.ensures.each k (omega (arith, below, c.whole.ensures.count))
    ∙ ap (λ j. o (get_or c.args.values.now j (pos 0)) (get_or c.args.others.now (place_in c.whole.result k) (pos 0))) start
    ∙ ap (λ p. o (get_or c.args.values.now k (pos 0)) (get_or c.args.others.now p (pos 0))) (c.whole.ensures.each k)
