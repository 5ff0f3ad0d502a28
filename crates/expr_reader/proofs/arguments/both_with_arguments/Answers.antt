use Rattle.std.proofs.lemmas.Result.{err_from_is_err_and}
use Rattle.tensor_ops.specs.Term.{binary}
use Rattle.tensor_ops.specs.Tree.{term_of}
use Rattle.expr_reader.specs.Arguments.{size, sizes, pairs}
use Rattle.expr_reader.specs.private.Version.{binary_of}
use Rattle.expr_reader.specs.declared.operation.Binary.TheVariants.{Pairwise, Concat, Contract, Convolve, Take}
use Rattle.expr_reader.proofs.Forms.{none-made, one-made, one-unread}
use Rattle.expr_reader.proofs.arguments.both_with_arguments.Goals as goal

pub returns-in-Pairwise-clause-expr : goal.returns-in-Pairwise-clause-expr
returns-in-Pairwise-clause-expr c =
    let long = rw c.in-Pairwise.is at c.requires.arguments in
    rw (c.in-Pairwise.is, c.pairwise.ensures)
    (none-made 3 c.args.arguments.now long (λ a. binary (binary_of (Pairwise c.in-Pairwise.scalar) a) (term_of c.args.left.value) (term_of c.args.right.value)))

pub returns-in_err-pairs-in-Contract-clause-expr : goal.returns-in_err-pairs-in-Contract-clause-expr
returns-in_err-pairs-in-Contract-clause-expr c =
    let p = err_from_is_err_and c.from_residual-in_err-pairs-in-Contract.result c.from_residual-in_err-pairs-in-Contract.ensures.1 in
    let long = rw c.in-Contract.is at c.requires.arguments in
    rw (c.in-Contract.is, p.1, p.2)
    (one-unread 3 pairs c.index-arguments-0-in-Contract.result c.args.arguments.now long c.index-arguments-0-in-Contract.is
    (λ a. binary (binary_of Contract a) (term_of c.args.left.value) (term_of c.args.right.value)) _ _ c.in_err-pairs-in-Contract.ensures.items)

pub returns-in_ok-pairs-in-Contract-clause-expr : goal.returns-in_ok-pairs-in-Contract-clause-expr
returns-in_ok-pairs-in-Contract-clause-expr c =
    let long = rw c.in-Contract.is at c.requires.arguments in
    rw c.in-Contract.is
    (one-made 3 pairs c.index-arguments-0-in-Contract.result c.args.arguments.now long c.index-arguments-0-in-Contract.is
    (λ a. binary (binary_of Contract a) (term_of c.args.left.value) (term_of c.args.right.value)) _ c.in_ok-pairs-in-Contract.ensures.items)

pub returns-in_err-axis-in-Concat-clause-expr : goal.returns-in_err-axis-in-Concat-clause-expr
returns-in_err-axis-in-Concat-clause-expr c =
    let p = err_from_is_err_and c.from_residual.result c.from_residual.ensures.1 in
    let long = rw c.in-Concat.is at c.requires.arguments in
    rw (c.in-Concat.is, p.1, p.2)
    (one-unread 3 size c.index-arguments-0.result c.args.arguments.now long c.index-arguments-0.is
    (λ a. binary (binary_of Concat a) (term_of c.args.left.value) (term_of c.args.right.value)) _ _ c.in_err-axis-in-Concat.ensures.item)

pub returns-in_ok-axis-in-Concat-clause-expr : goal.returns-in_ok-axis-in-Concat-clause-expr
returns-in_ok-axis-in-Concat-clause-expr c =
    let long = rw c.in-Concat.is at c.requires.arguments in
    rw c.in-Concat.is
    (one-made 3 size c.index-arguments-0.result c.args.arguments.now long c.index-arguments-0.is
    (λ a. binary (binary_of Concat a) (term_of c.args.left.value) (term_of c.args.right.value)) _ c.in_ok-axis-in-Concat.ensures.item)

pub returns-in_err-axes-in-Convolve-clause-expr : goal.returns-in_err-axes-in-Convolve-clause-expr
returns-in_err-axes-in-Convolve-clause-expr c =
    let p = err_from_is_err_and c.from_residual-in_err-axes-in-Convolve.result c.from_residual-in_err-axes-in-Convolve.ensures.1 in
    let long = rw c.in-Convolve.is at c.requires.arguments in
    rw (c.in-Convolve.is, p.1, p.2)
    (one-unread 3 sizes c.index-arguments-0-in-Convolve.result c.args.arguments.now long c.index-arguments-0-in-Convolve.is
    (λ a. binary (binary_of Convolve a) (term_of c.args.left.value) (term_of c.args.right.value)) _ _ c.in_err-axes-in-Convolve.ensures.items)

pub returns-in_ok-axes-in-Convolve-clause-expr : goal.returns-in_ok-axes-in-Convolve-clause-expr
returns-in_ok-axes-in-Convolve-clause-expr c =
    let long = rw c.in-Convolve.is at c.requires.arguments in
    rw c.in-Convolve.is
    (one-made 3 sizes c.index-arguments-0-in-Convolve.result c.args.arguments.now long c.index-arguments-0-in-Convolve.is
    (λ a. binary (binary_of Convolve a) (term_of c.args.left.value) (term_of c.args.right.value)) _ c.in_ok-axes-in-Convolve.ensures.items)

pub returns-in_err-axis-in-Take-clause-expr : goal.returns-in_err-axis-in-Take-clause-expr
returns-in_err-axis-in-Take-clause-expr c =
    let p = err_from_is_err_and c.from_residual-in_err-axis-in-Take.result c.from_residual-in_err-axis-in-Take.ensures.1 in
    let long = rw c.in-Take.is at c.requires.arguments in
    rw (c.in-Take.is, p.1, p.2)
    (one-unread 3 size c.index-arguments-0-in-Take.result c.args.arguments.now long c.index-arguments-0-in-Take.is
    (λ a. binary (binary_of Take a) (term_of c.args.left.value) (term_of c.args.right.value)) _ _ c.in_err-axis-in-Take.ensures.item)

pub returns-in_ok-axis-in-Take-clause-expr : goal.returns-in_ok-axis-in-Take-clause-expr
returns-in_ok-axis-in-Take-clause-expr c =
    let long = rw c.in-Take.is at c.requires.arguments in
    rw c.in-Take.is
    (one-made 3 size c.index-arguments-0-in-Take.result c.args.arguments.now long c.index-arguments-0-in-Take.is
    (λ a. binary (binary_of Take a) (term_of c.args.left.value) (term_of c.args.right.value)) _ c.in_ok-axis-in-Take.ensures.item)
