use Rattle.std.proofs.Common.{arith}
use Rattle.tensor_terms.specs.Tree.{term_of}
use Rattle.prepared_expressions.proofs.Trees.{height_of-pos}
use Rattle.prepared_expressions.proofs.written.+write_tree.Goals as goal

pub returns-then-height-eq0-clause-refused : goal.returns-then-height-eq0-clause-refused
returns-then-height-eq0-clause-refused t c = λ high.
    absurd (height_of-pos (term_of c.args.expr.now) (omega (arith, high, c.if-height-eq0.true)))
