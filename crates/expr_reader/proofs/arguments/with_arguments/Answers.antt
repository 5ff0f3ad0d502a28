use Rattle.std.proofs.Common.{Ok, ap, sym, ◌∙◌, rules}
use Rattle.std.proofs.lemmas.Int.{to_z-of_z}
use Rattle.std.proofs.lemmas.Result.{err_from_is_err_and}
use Rattle.std.specs.Int.{w64}
use mir.Val.{SFits}
use Rattle.tensor_ops.specs.Term.{unary, constant}
use Rattle.tensor_ops.specs.Tree.{term_of}
use Rattle.expr_reader.specs.Arguments.{size, sizes, pairs, flags, value}
use Rattle.expr_reader.specs.private.Version.{unary_of}
use Rattle.expr_reader.specs.declared.operation.Unary.TheVariants.{Each, Constant, Broadcast, Slice, Shuffle, Reshape, Chip, Reverse, Stride, Pad, Reduce, Along}
use Rattle.expr_reader.proofs.Forms.{none-made, one-made, one-unread, two-made, two-unread-first, two-unread-second}
use Rattle.expr_reader.proofs.arguments.with_arguments.Goals as goal

pub returns-in-Each-clause-expr : goal.returns-in-Each-clause-expr
returns-in-Each-clause-expr c =
    let long = rw c.in-Each.is at c.requires.arguments in
    rw (c.in-Each.is, c.each.ensures)
    (none-made 2 c.args.arguments.now long (λ a. unary (unary_of (Each c.in-Each.scalar) a) (term_of c.args.operand.value)))

pub returns-in_err-value-in-Constant-clause-expr : goal.returns-in_err-value-in-Constant-clause-expr
returns-in_err-value-in-Constant-clause-expr c =
    let p = err_from_is_err_and c.from_residual.result c.from_residual.ensures.1 in
    let long = rw c.in-Constant.is at c.requires.arguments in
    rw (c.in-Constant.is, p.1, p.2)
    (one-unread 2 value c.index-arguments-0.result c.args.arguments.now long c.index-arguments-0.is (λ a. unary (unary_of Constant a) (term_of c.args.operand.value))
    _ _ c.in_err-value-in-Constant.ensures.item)

pub returns-in_ok-value-in-Constant-clause-expr : goal.returns-in_ok-value-in-Constant-clause-expr
returns-in_ok-value-in-Constant-clause-expr c =
    let long = rw c.in-Constant.is at c.requires.arguments in
    let fits : SFits w64 c.in_ok-value-in-Constant.value = search rules in
    rw c.in-Constant.is
    (one-made 2 value c.index-arguments-0.result c.args.arguments.now long c.index-arguments-0.is
    (λ a. unary (unary_of Constant a) (term_of c.args.operand.value)) _ c.in_ok-value-in-Constant.ensures.item
    ∙ ap (λ z. Ok (unary (constant z) (term_of c.args.operand.value))) (sym (to_z-of_z w64 c.in_ok-value-in-Constant.value fits)))

pub returns-in_err-counts-in-Broadcast-clause-expr : goal.returns-in_err-counts-in-Broadcast-clause-expr
returns-in_err-counts-in-Broadcast-clause-expr c =
    let p = err_from_is_err_and c.from_residual-in_err-counts-in-Broadcast.result c.from_residual-in_err-counts-in-Broadcast.ensures.1 in
    let long = rw c.in-Broadcast.is at c.requires.arguments in
    rw (c.in-Broadcast.is, p.1, p.2)
    (one-unread 2 sizes c.index-arguments-0-in-Broadcast.result c.args.arguments.now long c.index-arguments-0-in-Broadcast.is (λ a. unary (unary_of Broadcast a) (term_of c.args.operand.value))
    _ _ c.in_err-counts-in-Broadcast.ensures.items)

pub returns-in_ok-counts-in-Broadcast-clause-expr : goal.returns-in_ok-counts-in-Broadcast-clause-expr
returns-in_ok-counts-in-Broadcast-clause-expr c =
    let long = rw c.in-Broadcast.is at c.requires.arguments in
    rw c.in-Broadcast.is
    (one-made 2 sizes c.index-arguments-0-in-Broadcast.result c.args.arguments.now long c.index-arguments-0-in-Broadcast.is (λ a. unary (unary_of Broadcast a) (term_of c.args.operand.value))
    _ c.in_ok-counts-in-Broadcast.ensures.items)

pub returns-in_err-order-in-Shuffle-clause-expr : goal.returns-in_err-order-in-Shuffle-clause-expr
returns-in_err-order-in-Shuffle-clause-expr c =
    let p = err_from_is_err_and c.from_residual-in_err-order-in-Shuffle.result c.from_residual-in_err-order-in-Shuffle.ensures.1 in
    let long = rw c.in-Shuffle.is at c.requires.arguments in
    rw (c.in-Shuffle.is, p.1, p.2)
    (one-unread 2 sizes c.index-arguments-0-in-Shuffle.result c.args.arguments.now long c.index-arguments-0-in-Shuffle.is (λ a. unary (unary_of Shuffle a) (term_of c.args.operand.value))
    _ _ c.in_err-order-in-Shuffle.ensures.items)

pub returns-in_ok-order-in-Shuffle-clause-expr : goal.returns-in_ok-order-in-Shuffle-clause-expr
returns-in_ok-order-in-Shuffle-clause-expr c =
    let long = rw c.in-Shuffle.is at c.requires.arguments in
    rw c.in-Shuffle.is
    (one-made 2 sizes c.index-arguments-0-in-Shuffle.result c.args.arguments.now long c.index-arguments-0-in-Shuffle.is (λ a. unary (unary_of Shuffle a) (term_of c.args.operand.value))
    _ c.in_ok-order-in-Shuffle.ensures.items)

pub returns-in_err-sizes-in-Reshape-clause-expr : goal.returns-in_err-sizes-in-Reshape-clause-expr
returns-in_err-sizes-in-Reshape-clause-expr c =
    let p = err_from_is_err_and c.from_residual-in_err-sizes-in-Reshape.result c.from_residual-in_err-sizes-in-Reshape.ensures.1 in
    let long = rw c.in-Reshape.is at c.requires.arguments in
    rw (c.in-Reshape.is, p.1, p.2)
    (one-unread 2 sizes c.index-arguments-0-in-Reshape.result c.args.arguments.now long c.index-arguments-0-in-Reshape.is (λ a. unary (unary_of Reshape a) (term_of c.args.operand.value))
    _ _ c.in_err-sizes-in-Reshape.ensures.items)

pub returns-in_ok-sizes-in-Reshape-clause-expr : goal.returns-in_ok-sizes-in-Reshape-clause-expr
returns-in_ok-sizes-in-Reshape-clause-expr c =
    let long = rw c.in-Reshape.is at c.requires.arguments in
    rw c.in-Reshape.is
    (one-made 2 sizes c.index-arguments-0-in-Reshape.result c.args.arguments.now long c.index-arguments-0-in-Reshape.is (λ a. unary (unary_of Reshape a) (term_of c.args.operand.value))
    _ c.in_ok-sizes-in-Reshape.ensures.items)

pub returns-in_err-flags-in-Reverse-clause-expr : goal.returns-in_err-flags-in-Reverse-clause-expr
returns-in_err-flags-in-Reverse-clause-expr c =
    let p = err_from_is_err_and c.from_residual-in_err-flags-in-Reverse.result c.from_residual-in_err-flags-in-Reverse.ensures.1 in
    let long = rw c.in-Reverse.is at c.requires.arguments in
    rw (c.in-Reverse.is, p.1, p.2)
    (one-unread 2 flags c.index-arguments-0-in-Reverse.result c.args.arguments.now long c.index-arguments-0-in-Reverse.is (λ a. unary (unary_of Reverse a) (term_of c.args.operand.value))
    _ _ c.in_err-flags-in-Reverse.ensures.items)

pub returns-in_ok-flags-in-Reverse-clause-expr : goal.returns-in_ok-flags-in-Reverse-clause-expr
returns-in_ok-flags-in-Reverse-clause-expr c =
    let long = rw c.in-Reverse.is at c.requires.arguments in
    rw c.in-Reverse.is
    (one-made 2 flags c.index-arguments-0-in-Reverse.result c.args.arguments.now long c.index-arguments-0-in-Reverse.is (λ a. unary (unary_of Reverse a) (term_of c.args.operand.value))
    _ c.in_ok-flags-in-Reverse.ensures.items)

pub returns-in_err-steps-in-Stride-clause-expr : goal.returns-in_err-steps-in-Stride-clause-expr
returns-in_err-steps-in-Stride-clause-expr c =
    let p = err_from_is_err_and c.from_residual-in_err-steps-in-Stride.result c.from_residual-in_err-steps-in-Stride.ensures.1 in
    let long = rw c.in-Stride.is at c.requires.arguments in
    rw (c.in-Stride.is, p.1, p.2)
    (one-unread 2 sizes c.index-arguments-0-in-Stride.result c.args.arguments.now long c.index-arguments-0-in-Stride.is (λ a. unary (unary_of Stride a) (term_of c.args.operand.value))
    _ _ c.in_err-steps-in-Stride.ensures.items)

pub returns-in_ok-steps-in-Stride-clause-expr : goal.returns-in_ok-steps-in-Stride-clause-expr
returns-in_ok-steps-in-Stride-clause-expr c =
    let long = rw c.in-Stride.is at c.requires.arguments in
    rw c.in-Stride.is
    (one-made 2 sizes c.index-arguments-0-in-Stride.result c.args.arguments.now long c.index-arguments-0-in-Stride.is (λ a. unary (unary_of Stride a) (term_of c.args.operand.value))
    _ c.in_ok-steps-in-Stride.ensures.items)

pub returns-in_err-pairs-in-Pad-clause-expr : goal.returns-in_err-pairs-in-Pad-clause-expr
returns-in_err-pairs-in-Pad-clause-expr c =
    let p = err_from_is_err_and c.from_residual-in_err-pairs-in-Pad.result c.from_residual-in_err-pairs-in-Pad.ensures.1 in
    let long = rw c.in-Pad.is at c.requires.arguments in
    rw (c.in-Pad.is, p.1, p.2)
    (one-unread 2 pairs c.index-arguments-0-in-Pad.result c.args.arguments.now long c.index-arguments-0-in-Pad.is (λ a. unary (unary_of Pad a) (term_of c.args.operand.value))
    _ _ c.in_err-pairs-in-Pad.ensures.items)

pub returns-in_ok-pairs-in-Pad-clause-expr : goal.returns-in_ok-pairs-in-Pad-clause-expr
returns-in_ok-pairs-in-Pad-clause-expr c =
    let long = rw c.in-Pad.is at c.requires.arguments in
    rw c.in-Pad.is
    (one-made 2 pairs c.index-arguments-0-in-Pad.result c.args.arguments.now long c.index-arguments-0-in-Pad.is (λ a. unary (unary_of Pad a) (term_of c.args.operand.value))
    _ c.in_ok-pairs-in-Pad.ensures.items)

pub returns-in_err-offsets-in-Slice-clause-expr : goal.returns-in_err-offsets-in-Slice-clause-expr
returns-in_err-offsets-in-Slice-clause-expr c =
    let p = err_from_is_err_and c.from_residual-in_err-offsets-in-Slice.result c.from_residual-in_err-offsets-in-Slice.ensures.1 in
    let long = rw c.in-Slice.is at c.requires.arguments in
    rw (c.in-Slice.is, p.1, p.2)
    (two-unread-first 2 sizes c.index-arguments-0-in-Slice.result sizes c.args.arguments.now long c.index-arguments-0-in-Slice.is
    (λ a. unary (unary_of Slice a) (term_of c.args.operand.value)) _ _ c.in_err-offsets-in-Slice.ensures.items)

pub returns-in_err-extents-in-Slice-clause-expr : goal.returns-in_err-extents-in-Slice-clause-expr
returns-in_err-extents-in-Slice-clause-expr c =
    let p = err_from_is_err_and c.from_residual-in_err-extents-in-Slice.result c.from_residual-in_err-extents-in-Slice.ensures.1 in
    let long = rw c.in-Slice.is at c.requires.arguments in
    rw (c.in-Slice.is, p.1, p.2)
    (two-unread-second 2 sizes c.index-arguments-0-in-Slice.result sizes c.index-arguments-1.result c.args.arguments.now long c.index-arguments-0-in-Slice.is c.index-arguments-1.is
    (λ a. unary (unary_of Slice a) (term_of c.args.operand.value)) _ c.in_ok-offsets-in-Slice.ensures.items _ _ c.in_err-extents-in-Slice.ensures.items)

pub returns-in_ok-extents-in-Slice-clause-expr : goal.returns-in_ok-extents-in-Slice-clause-expr
returns-in_ok-extents-in-Slice-clause-expr c =
    let long = rw c.in-Slice.is at c.requires.arguments in
    rw c.in-Slice.is
    (two-made 2 sizes c.index-arguments-0-in-Slice.result sizes c.index-arguments-1.result c.args.arguments.now long c.index-arguments-0-in-Slice.is c.index-arguments-1.is
    (λ a. unary (unary_of Slice a) (term_of c.args.operand.value)) _ _ c.in_ok-offsets-in-Slice.ensures.items c.in_ok-extents-in-Slice.ensures.items)

pub returns-in_err-offset-in-Chip-clause-expr : goal.returns-in_err-offset-in-Chip-clause-expr
returns-in_err-offset-in-Chip-clause-expr c =
    let p = err_from_is_err_and c.from_residual-in_err-offset-in-Chip.result c.from_residual-in_err-offset-in-Chip.ensures.1 in
    let long = rw c.in-Chip.is at c.requires.arguments in
    rw (c.in-Chip.is, p.1, p.2)
    (two-unread-first 2 size c.index-arguments-0-in-Chip.result size c.args.arguments.now long c.index-arguments-0-in-Chip.is
    (λ a. unary (unary_of Chip a) (term_of c.args.operand.value)) _ _ c.in_err-offset-in-Chip.ensures.item)

pub returns-in_err-axis-in-Chip-clause-expr : goal.returns-in_err-axis-in-Chip-clause-expr
returns-in_err-axis-in-Chip-clause-expr c =
    let p = err_from_is_err_and c.from_residual-in_err-axis-in-Chip.result c.from_residual-in_err-axis-in-Chip.ensures.1 in
    let long = rw c.in-Chip.is at c.requires.arguments in
    rw (c.in-Chip.is, p.1, p.2)
    (two-unread-second 2 size c.index-arguments-0-in-Chip.result size c.index-arguments-1-in-Chip.result c.args.arguments.now long c.index-arguments-0-in-Chip.is c.index-arguments-1-in-Chip.is
    (λ a. unary (unary_of Chip a) (term_of c.args.operand.value)) _ c.in_ok-offset-in-Chip.ensures.item _ _ c.in_err-axis-in-Chip.ensures.item)

pub returns-in_ok-axis-in-Chip-clause-expr : goal.returns-in_ok-axis-in-Chip-clause-expr
returns-in_ok-axis-in-Chip-clause-expr c =
    let long = rw c.in-Chip.is at c.requires.arguments in
    rw c.in-Chip.is
    (two-made 2 size c.index-arguments-0-in-Chip.result size c.index-arguments-1-in-Chip.result c.args.arguments.now long c.index-arguments-0-in-Chip.is c.index-arguments-1-in-Chip.is
    (λ a. unary (unary_of Chip a) (term_of c.args.operand.value)) _ _ c.in_ok-offset-in-Chip.ensures.item c.in_ok-axis-in-Chip.ensures.item)

pub returns-in_err-axes-in-Reduce-clause-expr : goal.returns-in_err-axes-in-Reduce-clause-expr
returns-in_err-axes-in-Reduce-clause-expr c =
    let p = err_from_is_err_and c.from_residual-in_err-axes-in-Reduce.result c.from_residual-in_err-axes-in-Reduce.ensures.1 in
    let long = rw c.in-Reduce.is at c.requires.arguments in
    rw (c.in-Reduce.is, p.1, p.2)
    (one-unread 2 sizes c.index-arguments-0-in-Reduce.result c.args.arguments.now long c.index-arguments-0-in-Reduce.is (λ a. unary (unary_of (Reduce c.in-Reduce.reducer) a) (term_of c.args.operand.value))
    _ _ c.in_err-axes-in-Reduce.ensures.items)

pub returns-in_ok-axes-in-Reduce-clause-expr : goal.returns-in_ok-axes-in-Reduce-clause-expr
returns-in_ok-axes-in-Reduce-clause-expr c =
    let long = rw c.in-Reduce.is at c.requires.arguments in
    rw (c.in-Reduce.is, c.reduction.ensures)
    (one-made 2 sizes c.index-arguments-0-in-Reduce.result c.args.arguments.now long c.index-arguments-0-in-Reduce.is (λ a. unary (unary_of (Reduce c.in-Reduce.reducer) a) (term_of c.args.operand.value))
    _ c.in_ok-axes-in-Reduce.ensures.items)

pub returns-in_err-axis-in-Along-clause-expr : goal.returns-in_err-axis-in-Along-clause-expr
returns-in_err-axis-in-Along-clause-expr c =
    let p = err_from_is_err_and c.from_residual-in_err-axis-in-Along.result c.from_residual-in_err-axis-in-Along.ensures.1 in
    let long = rw c.in-Along.is at c.requires.arguments in
    rw (c.in-Along.is, p.1, p.2)
    (one-unread 2 size c.index-arguments-0-in-Along.result c.args.arguments.now long c.index-arguments-0-in-Along.is (λ a. unary (unary_of (Along c.in-Along.line) a) (term_of c.args.operand.value))
    _ _ c.in_err-axis-in-Along.ensures.item)

pub returns-in_ok-axis-in-Along-clause-expr : goal.returns-in_ok-axis-in-Along-clause-expr
returns-in_ok-axis-in-Along-clause-expr c =
    let long = rw c.in-Along.is at c.requires.arguments in
    rw (c.in-Along.is, c.along.ensures)
    (one-made 2 size c.index-arguments-0-in-Along.result c.args.arguments.now long c.index-arguments-0-in-Along.is (λ a. unary (unary_of (Along c.in-Along.line) a) (term_of c.args.operand.value))
    _ c.in_ok-axis-in-Along.ensures.item)
