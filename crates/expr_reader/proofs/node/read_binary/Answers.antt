use Rattle.std.proofs.Common.{refl, length, sym}
use Rattle.serde_json.specs.View.{items_view}
use Rattle.tensor_ops.specs.Term.{binary}
use Rattle.tensor_ops.specs.Tree.{term_of}
use Rattle.expr_reader.specs.Arguments.{arguments_at}
use Rattle.expr_reader.specs.private.Version.{forms_of_two, binary_of}
use Rattle.expr_reader.proofs.Walk.{made-found, made-binary}
use Rattle.expr_reader.proofs.node.read_binary.Goals as goal

pub checked-requires-clause-operands : goal.checked-requires-clause-operands
checked-requires-clause-operands c =
    let read = rw (c.in_ok-first.ensures, c.in_ok-second.ensures) at c.in_ok-expr.ensures.expr in
    let both = made-binary (binary_of c.args.operation) (term_of c.args.left.expr) (term_of c.args.right.expr) (term_of c.in_ok-expr.expr)
    (arguments_at 3 (forms_of_two c.args.operation) (items_view c.args.arguments.now)) read in
    let g = c.requires.operands.0 in (
      g.tensors,
      rw (both.0 c.args.bounds g.tensors, sym c.requires.operands.1, c.requires.operands.2.0.dims_known, c.requires.operands.2.1.dims_known) refl,
    )

pub returns-clause-tree : goal.returns-clause-tree
returns-clause-tree c = λ g bounds left right.
    let read = rw (c.in_ok-first.ensures, c.in_ok-second.ensures) at c.in_ok-expr.ensures.expr in
    let both = made-binary (binary_of c.args.operation) (term_of c.args.left.expr) (term_of c.args.right.expr) (term_of c.in_ok-expr.expr)
    (arguments_at 3 (forms_of_two c.args.operation) (items_view c.args.arguments.now)) read in
    rw (
      made-found g (forms_of_two c.args.operation) 3 (items_view c.args.arguments.now)
          (λ a. binary (binary_of c.args.operation a) (term_of c.args.left.expr) (term_of c.args.right.expr))
          c.args.right.end (term_of c.in_ok-expr.expr) read,
      c.in_ok-expr.ensures.kept,
    )
    (c.checked.ensures.tree g bounds
    (rw (both.1 (length g.tensors)) (rw (left.inputs_known, right.inputs_known) refl))
    (rw (both.0 c.args.bounds g.tensors, sym bounds, left.dims_known, right.dims_known) refl))
