use Rattle.std.proofs.Common.{◌∙◌, ap, ◌≡◌, refl}
use Rattle.run_queue.specs.Bag.{total}
use Rattle.parallel_for.specs.Leaves.{leaves_of}
use Rattle.parallel_for.proofs.evaluation.fill_range.Goals as goal

pub collect-requires-clause-covered : goal.collect-requires-clause-covered
collect-requires-clause-covered g c = λ h.
    let root = c.root.result in
    let whole : leaves_of 0 c.args.range.n c.args.range.block
    ≡ leaves_of root.first root.last g.D.Division.block =
    rw (c.root.ensures.first, c.root.ensures.last, c.requires.block) refl in
    ap (total h) whole ∙ c.in_ok-pieces.ensures.covered h
