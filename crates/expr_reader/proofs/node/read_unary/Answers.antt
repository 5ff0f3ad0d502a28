use Rattle.std.proofs.Common.{◌≡◌, [], ◌∷◌, true, Ok, refl, length, sym}
use Rattle.serde_json.specs.View.{items_view}
use Rattle.tensor_ops.specs.Result.{operand_dims}
use Rattle.tensor_ops.specs.Term.{has_inputs, unary}
use Rattle.tensor_ops.specs.Tree.{term_of}
use Rattle.expr_reader.specs.Arguments.{arguments_at}
use Rattle.expr_reader.specs.private.Version.{forms_of, unary_of}
use Rattle.expr_reader.proofs.Walk.{made-found, made-unary, made-unary-inputs}
use Rattle.expr_reader.proofs.node.read_unary.Goals as goal

pub checked-requires-clause-operands : goal.checked-requires-clause-operands
checked-requires-clause-operands c =
    let read = rw c.in_ok-first.ensures at c.in_ok-expr.ensures.expr in
    let g = c.requires.operand.0 in (
      g.tensors,
      rw (
        made-unary (unary_of c.args.operation) (term_of c.args.operand.expr) (term_of c.in_ok-expr.expr)
            (arguments_at 2 (forms_of c.args.operation) (items_view c.args.arguments.now)) read c.args.bounds g.tensors,
        sym c.requires.operand.1,
        c.requires.operand.2.dims_known,
      ) refl,
    )

pub returns-clause-tree : goal.returns-clause-tree
returns-clause-tree c = λ g bounds shaped.
    let read = rw c.in_ok-first.ensures at c.in_ok-expr.ensures.expr in
    let inputs : has_inputs (term_of c.in_ok-expr.expr) (length g.tensors) ≡ true = rw (made-unary-inputs (unary_of c.args.operation) (term_of c.args.operand.expr) (term_of c.in_ok-expr.expr)
    (arguments_at 2 (forms_of c.args.operation) (items_view c.args.arguments.now)) read (length g.tensors))
    shaped.inputs_known in
    let operands : operand_dims c.args.bounds (term_of c.in_ok-expr.expr) g.tensors ≡ Ok c.args.operand.dims ∷ [] = rw (
      made-unary (unary_of c.args.operation) (term_of c.args.operand.expr) (term_of c.in_ok-expr.expr)
          (arguments_at 2 (forms_of c.args.operation) (items_view c.args.arguments.now)) read c.args.bounds g.tensors,
      sym bounds,
      shaped.dims_known,
    ) refl in
    rw (
      made-found g (forms_of c.args.operation) 2 (items_view c.args.arguments.now)
          (λ a. unary (unary_of c.args.operation a) (term_of c.args.operand.expr)) c.args.operand.end (term_of c.in_ok-expr.expr) read,
      c.in_ok-expr.ensures.kept,
    )
    (c.checked.ensures.tree g bounds inputs operands)
