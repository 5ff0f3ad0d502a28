use Rattle.std.proofs.Common.{◌≡◌, ℕ, ◌%◌, ◌^◌, sym, ap, ◌∙◌, arith}
use Rattle.std.specs.Prelude.{sum, sum_by}
use Rattle.std.specs.List.{flat_map}
use Rattle.worker_pool.specs.Standing.{roots_in}
use Rattle.parallel_for.proofs.Covering.{weight-accounts}
use Rattle.uses.specs.declared.leaves.Tree.{Tree}
use Rattle.uses.specs.Trees.{leaves_of}
use Rattle.uses.proofs.Sums.{total-sum, total-sum_by, sum-flat_map}
use Rattle.uses.proofs.leaves.count_all_leaves.Goals as goal

-- the leaves of all roots are those that the jobs have counted
pub returns-clause-leaves : goal.returns-clause-leaves
returns-clause-leaves g c =
    let closed = c.close-closed.result in
    let told = c.close-closed.ensures in
    let roots = roots_in c.plant.new.pool in
    let outs = flat_map (λ list. list.items) closed.outs.items in
    let weigh = λ (tree : Tree). leaves_of tree.height in
    let leaves = weight-accounts _ weigh (λ (n : ℕ). n) (λ job kid rest step. step.0)
    (λ job out step. sym step.0) roots outs closed.left.items closed.refused tt told.none_left
    (omega (arith, c.if-closed-gt0.false)) told.account in
    let none = ap (sum_by weigh) c.in_ok-pool.ensures.no_roots in
    let planted : sum_by weigh roots ≡ sum_by leaves_of c.args.heights.now =
    omega (arith, none, c.plant.ensures.leaves) in
    let counted = ap (sum_by (λ list. sum list.items)) c.deref.ensures.value
    ∙ sym (sum-flat_map (λ list. list.items) closed.outs.items)
    ∙ sym (total-sum outs) ∙ sym leaves ∙ total-sum_by weigh roots ∙ planted in
    c.total.ensures ∙ ap (λ (n : ℕ). n % 2 ^ 64) counted
