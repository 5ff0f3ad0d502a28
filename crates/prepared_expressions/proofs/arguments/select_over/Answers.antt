use Rattle.std.proofs.Common.{◌≡◌, refl}
use Rattle.tensor_terms.specs.Term.{ternary, select}
use Rattle.tensor_terms.specs.Tree.{term_of}
use Rattle.prepared_expressions.proofs.Made.{made-none}
use Rattle.prepared_expressions.proofs.arguments.select_over.Goals as goal

pub returns : goal.returns
returns c =
    let same : ternary select (term_of c.args.choice) (term_of c.args.first) (term_of c.args.second)
    ≡ ternary select (term_of c.in_ok-choice.choice.value) (term_of c.in_ok-first.first.value)
    (term_of c.in_ok-second.second.value) =
    rw (c.in_ok-choice.ensures, c.in_ok-first.ensures, c.in_ok-second.ensures) refl in
    made-none term_of _ _ c.args.arguments.now c.alone.result same c.alone.ensures
