use Rattle.std.proofs.Common.{◌∙◌, ap, arith, length}
use Rattle.std.specs.Prelude.{sum_by}
use Rattle.std.proofs.lemmas.List.Sums.{sum_by-cons, sum_by_push}
use Rattle.worker_pool.specs.Standing.{roots_in}
use Rattle.uses.specs.declared.leaves.Tree.{Tree}
use Rattle.uses.specs.Trees.{leaves_of}
use Rattle.uses.proofs.Sums.{sum_by-none}
use Rattle.uses.proofs.leaves.+plant.Goals as goal

pub plant-requires : goal.plant-requires
plant-requires g t c κs within =
    let rest = ap length c.in-Some.ensures.cases.0 in
    (omega (arith, rest), (within, c.schedule.ensures.standing))

pub returns-in_default-clause-leaves : goal.returns-in_default-clause-leaves
returns-in_default-clause-leaves g t c =
    let empty = c.in_default.ensures.cases in
    let none = sum_by-none leaves_of c.args.heights.now
    (λ i d below. absurd (omega (arith, below, empty))) in
    omega (arith, none)

-- one more root, and one height fewer
pub returns-clause-leaves : goal.returns-clause-leaves
returns-clause-leaves g t c =
    let leaves = λ (tree : Tree). leaves_of tree.height in
    let tree : Tree = record { height = c.in-Some.height.now } in
    let more = ap (sum_by leaves) c.schedule.ensures.more
    ∙ sum_by_push leaves (roots_in c.args.pool.now) tree in
    let heights = ap (sum_by leaves_of) c.in-Some.ensures.cases.0
    ∙ sum_by-cons leaves_of c.in-Some.height.now c.in-Some.rest.now in
    omega (arith, more, heights, c.plant.ensures.leaves)
