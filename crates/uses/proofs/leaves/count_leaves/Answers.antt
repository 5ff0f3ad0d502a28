use Rattle.std.proofs.Common.{◌≡◌, ℕ, ◌%◌, ◌^◌, sym, ap, ◌∙◌, arith}
use Rattle.std.specs.Prelude.{sum, sum_by}
use Rattle.std.specs.List.{flat_map}
use Rattle.parallel_for.proofs.Covering.{weight-account}
use Rattle.uses.specs.Trees.{leaves_of}
use Rattle.uses.proofs.Sums.{total-sum, sum-flat_map}
use Rattle.uses.proofs.leaves.count_leaves.Goals as goal

-- the leaves of the root are those that the jobs have counted
pub returns-clause-leaves : goal.returns-clause-leaves
returns-clause-leaves g c =
    let closed = c.in_ok-closed.closed in
    let told = c.in_ok-closed.ensures in
    let outs = flat_map (λ list. list.items) closed.outs.items in
    let leaves = weight-account _ (λ tree. leaves_of tree.height) (λ (n : ℕ). n)
    (λ job kid rest step. step.0) (λ job out step. sym step.0) _ outs closed.left.items
    closed.refused tt told.none_left (omega (arith, c.if-closed-gt0.false)) told.account in
    let counted = ap (sum_by (λ list. sum list.items)) c.deref.ensures.value
    ∙ sym (sum-flat_map (λ list. list.items) closed.outs.items)
    ∙ sym (total-sum outs) ∙ sym leaves in
    c.total.ensures ∙ ap (λ (n : ℕ). n % 2 ^ 64) counted
