-- The nodes that are left, and where the loops of a reduction, of a contraction, of a convolution and
-- of an operation along an axis stand.
use Rattle.std.proofs.Common.{◌+◌, ◌*◌}
use Rattle.tensor_terms.specs.Term.{nodes_of}
use Rattle.tensor_terms.specs.Tree.{term_of}
use Rattle.tensor_terms.specs.Value.{value_of_place}
use Rattle.tensor_terms.proofs.AlongTerms.{KnowsLine}
use Rattle.tensor_terms.proofs.ConvolvedTerms.{WindowFrom}
use Rattle.tensor_terms.proofs.Terms.{ReducedFrom, SummedFrom}
use Rattle.tensor_terms.proofs.cursor.+value.Given as goal

abbrev pub decreases-value_at : goal.decreases-value_at
decreases-value_at l = 2 * nodes_of (term_of l.expr.now)

abbrev pub decreases-reduced_at : goal.decreases-reduced_at
decreases-reduced_at l = 2 * nodes_of (term_of l.a.now) + 1

abbrev pub decreases-contracted_at : goal.decreases-contracted_at
decreases-contracted_at l = 2 * (nodes_of (term_of l.a.now) + nodes_of (term_of l.b.now)) + 1

abbrev pub decreases-padded_at : goal.decreases-padded_at
decreases-padded_at l = 2 * nodes_of (term_of l.a.now) + 1

abbrev pub decreases-concatenated_at : goal.decreases-concatenated_at
decreases-concatenated_at l = 2 * (nodes_of (term_of l.a.now) + nodes_of (term_of l.b.now)) + 1

abbrev pub decreases-convolved_at : goal.decreases-convolved_at
decreases-convolved_at l = 2 * (nodes_of (term_of l.a.now) + nodes_of (term_of l.b.now)) + 1

abbrev pub decreases-along_at : goal.decreases-along_at
decreases-along_at l = 2 * nodes_of (term_of l.a.now) + 1

abbrev pub decreases-taken_at : goal.decreases-taken_at
decreases-taken_at l = 2 * (nodes_of (term_of l.operands.0.now) + nodes_of (term_of l.operands.1.now)) + 1

abbrev pub invariant-along_at-loop-k : goal.invariant-along_at-loop-k
invariant-along_at-loop-k l =
    KnowsLine l.operation l.lines l.width (value_of_place (term_of l.a) l.inputs.tensors) l.place l.k l.progress

abbrev pub invariant-reduced_at-loop-inner : goal.invariant-reduced_at-loop-inner
invariant-reduced_at-loop-inner l =
    ReducedFrom l.inputs.tensors l.reducer l.axes (term_of l.a) l.value l.inner l.count l.place

abbrev pub invariant-contracted_at-loop-inner : goal.invariant-contracted_at-loop-inner
invariant-contracted_at-loop-inner l =
    SummedFrom l.inputs.tensors l.pairs (term_of l.a) (term_of l.b) l.value l.inner l.inner-end l.place

abbrev pub invariant-convolved_at-loop-inner : goal.invariant-convolved_at-loop-inner
invariant-convolved_at-loop-inner l =
    WindowFrom l.inputs.tensors l.axes (term_of l.a) (term_of l.b) l.value l.inner l.inner-end l.place
