use Rattle.std.proofs.Common.{◌≡◌, Some, ap, sym}
use Rattle.tensor_terms.specs.Term.{binary, pairwise}
use Rattle.tensor_terms.specs.Tree.{term_of}
use Rattle.prepared_expressions.proofs.Made.{of_none-back}
use Rattle.prepared_expressions.proofs.arguments.binary_over.Goals as goal

pub returns-in_ok-scalar-in-Pairwise : goal.returns-in_ok-scalar-in-Pairwise
returns-in_ok-scalar-in-Pairwise c =
    let p = of_none-back c.in-Pairwise.scalar c.in_ok-scalar-in-Pairwise.scalar c.args.arguments.now c.in_ok-scalar-in-Pairwise.ensures in
    let e : term_of c.pairwise.result ≡ binary (pairwise c.in_ok-scalar-in-Pairwise.scalar) (term_of c.args.first) (term_of c.args.second) =
    rw (c.in_ok-first.ensures, c.in_ok-second.ensures) at c.pairwise.ensures in
    rw (c.in-Pairwise.is, p.1, p.0) (ap Some (sym e))
