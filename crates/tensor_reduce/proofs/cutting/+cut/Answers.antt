use Rattle.std.proofs.Common.{Ok, ap, sym, ◌∙◌, arith}
use Rattle.tensor_ops.specs.Tree.{term_of, unary_at, binary_at, ternary_at}
use Rattle.tensor_reduce.proofs.Cuts.{cut-unary, cut-binary, cut-ternary, IfOk-then}
use Rattle.tensor_reduce.proofs.Operands.{operand-unary, operands-binary, operands-ternary}
use Rattle.tensor_reduce.proofs.Operands.{dims-unary, dims-binary, dims-ternary}
use Rattle.tensor_reduce.proofs.cutting.+cut.Goals as goal

pub returns-in_ok-over-in-Unary : goal.returns-in_ok-over-in-Unary
returns-in_ok-over-in-Unary t c =
    let first = c.in_ok-cut-in-Unary in
    let u = c.into_parts-a in
    let node = c.new-node in
    IfOk-then c.split_off.result _ _
    (λ rest done.
    cut-unary c.args.inputs.now.tensors c.args.whole c.combines-combining.result
    (unary_at c.in-Unary.operation) (term_of c.in-Unary.a.now)
    (term_of c.args.expr.now) (term_of u.result.0) c.args.steps.now.items c.cut.new.steps.items
    c.split_off.new.steps.items
    first.field-0 node.result rest c.in-Unary.ensures c.combines-combining.ensures first.ensures
    (node.ensures.term ∙ c.in_ok-over-in-Unary.ensures) u.ensures.expr
    (c.dims_over-dims.ensures ∙ ap Ok (sym node.ensures.dims)) done)
    c.split_off.ensures

pub returns-in_ok-over-in-Binary : goal.returns-in_ok-over-in-Binary
returns-in_ok-over-in-Binary t c =
    let first = c.in_ok-cut-in-Binary in
    let second = c.in_ok-cut-in-Binary-2 in
    let u = c.into_parts-a-in-Binary in
    let v = c.into_parts-b in
    let node = c.new-node-in-Binary in
    IfOk-then c.split_off-in-Binary.result _ _
    (λ rest done.
    cut-binary c.args.inputs.now.tensors c.args.whole c.combines-combining-in-Binary.result
    (binary_at c.in-Binary.operation) (term_of c.in-Binary.a.now)
    (term_of c.in-Binary.b.now) (term_of c.args.expr.now) (term_of u.result.0) (term_of v.result.0)
    c.args.steps.now.items
    c.cut-in-Binary.new.steps.items c.cut-in-Binary-2.new.steps.items
    c.split_off-in-Binary.new.steps.items
    first.field-0 second.field-0 node.result rest c.in-Binary.ensures
    c.combines-combining-in-Binary.ensures first.ensures second.ensures
    (node.ensures.term ∙ c.in_ok-over-in-Binary.ensures) u.ensures.expr v.ensures.expr
    (c.dims_over-dims-in-Binary.ensures ∙ ap Ok (sym node.ensures.dims)) done)
    c.split_off-in-Binary.ensures

pub returns-in_ok-over-in-Ternary : goal.returns-in_ok-over-in-Ternary
returns-in_ok-over-in-Ternary t c =
    let first = c.in_ok-cut-in-Ternary in
    let second = c.in_ok-cut-in-Ternary-2 in
    let third = c.in_ok-cut-in-Ternary-3 in
    let u = c.into_parts-a-in-Ternary in
    let v = c.into_parts-b-in-Ternary in
    let w = c.into_parts-c in
    let node = c.new-node-in-Ternary in
    IfOk-then c.split_off-in-Ternary.result _ _
    (λ rest done.
    cut-ternary c.args.inputs.now.tensors c.args.whole (ternary_at c.in-Ternary.operation)
    (term_of c.in-Ternary.a.now) (term_of c.in-Ternary.b.now)
    (term_of c.in-Ternary.c.now) (term_of c.args.expr.now) (term_of u.result.0)
    (term_of v.result.0) (term_of w.result.0)
    c.args.steps.now.items c.cut-in-Ternary.new.steps.items c.cut-in-Ternary-2.new.steps.items
    c.cut-in-Ternary-3.new.steps.items
    c.split_off-in-Ternary.new.steps.items first.field-0 second.field-0 third.field-0 node.result rest
    c.in-Ternary.ensures first.ensures second.ensures third.ensures
    (node.ensures.term ∙ c.in_ok-over-in-Ternary.ensures)
    u.ensures.expr v.ensures.expr w.ensures.expr
    (c.dims_over-dims-in-Ternary.ensures ∙ ap Ok (sym node.ensures.dims)) done)
    c.split_off-in-Ternary.ensures

pub cut-requires : goal.cut-requires
cut-requires t c =
    let of =
    operand-unary c.args.inputs.now.tensors (unary_at c.in-Unary.operation)
    (term_of c.in-Unary.a.now) (term_of c.args.expr.now)
    c.in-Unary.ensures (record { names = c.requires.inputs; dims = c.requires.dims }) in
    (omega (arith, c.decreases, of.fewer), (of.has.names, of.has.dims))

pub cut-requires-in-Binary : goal.cut-requires-in-Binary
cut-requires-in-Binary t c =
    let of =
    operands-binary c.args.inputs.now.tensors (binary_at c.in-Binary.operation)
    (term_of c.in-Binary.a.now) (term_of c.in-Binary.b.now) (term_of c.args.expr.now)
    c.in-Binary.ensures (record { names = c.requires.inputs; dims = c.requires.dims }) in
    (omega (arith, c.decreases, of.0.fewer), (of.0.has.names, of.0.has.dims))

pub cut-requires-in-Binary-2 : goal.cut-requires-in-Binary-2
cut-requires-in-Binary-2 t c =
    let of =
    operands-binary c.args.inputs.now.tensors (binary_at c.in-Binary.operation)
    (term_of c.in-Binary.a.now) (term_of c.in-Binary.b.now) (term_of c.args.expr.now)
    c.in-Binary.ensures (record { names = c.requires.inputs; dims = c.requires.dims }) in
    (omega (arith, c.decreases, of.1.fewer), (of.1.has.names, of.1.has.dims))

pub cut-requires-in-Ternary : goal.cut-requires-in-Ternary
cut-requires-in-Ternary t c =
    let of =
    operands-ternary c.args.inputs.now.tensors (ternary_at c.in-Ternary.operation)
    (term_of c.in-Ternary.a.now) (term_of c.in-Ternary.b.now)
    (term_of c.in-Ternary.c.now) (term_of c.args.expr.now)
    c.in-Ternary.ensures (record { names = c.requires.inputs; dims = c.requires.dims }) in
    (omega (arith, c.decreases, of.0.fewer), (of.0.has.names, of.0.has.dims))

pub cut-requires-in-Ternary-2 : goal.cut-requires-in-Ternary-2
cut-requires-in-Ternary-2 t c =
    let of =
    operands-ternary c.args.inputs.now.tensors (ternary_at c.in-Ternary.operation)
    (term_of c.in-Ternary.a.now) (term_of c.in-Ternary.b.now)
    (term_of c.in-Ternary.c.now) (term_of c.args.expr.now)
    c.in-Ternary.ensures (record { names = c.requires.inputs; dims = c.requires.dims }) in
    (omega (arith, c.decreases, of.1.fewer), (of.1.has.names, of.1.has.dims))

pub cut-requires-in-Ternary-3 : goal.cut-requires-in-Ternary-3
cut-requires-in-Ternary-3 t c =
    let of =
    operands-ternary c.args.inputs.now.tensors (ternary_at c.in-Ternary.operation)
    (term_of c.in-Ternary.a.now) (term_of c.in-Ternary.b.now)
    (term_of c.in-Ternary.c.now) (term_of c.args.expr.now)
    c.in-Ternary.ensures (record { names = c.requires.inputs; dims = c.requires.dims }) in
    (omega (arith, c.decreases, of.2.fewer), (of.2.has.names, of.2.has.dims))

pub dims_over-dims-requires-clause-operands : goal.dims_over-dims-requires-clause-operands
dims_over-dims-requires-clause-operands t c =
    dims-unary c.args.inputs.now.tensors (unary_at c.in-Unary.operation)
    (term_of c.in-Unary.a.now) (term_of c.args.expr.now)
    c.into_parts-a.result.1 c.in-Unary.ensures
    (c.in_ok-cut-in-Unary.ensures.dims ∙ ap Ok (sym c.into_parts-a.ensures.dims))

pub dims_over-dims-requires-in-Binary-clause-operands :
    goal.dims_over-dims-requires-in-Binary-clause-operands
dims_over-dims-requires-in-Binary-clause-operands t c =
    dims-binary c.args.inputs.now.tensors (binary_at c.in-Binary.operation)
    (term_of c.in-Binary.a.now) (term_of c.in-Binary.b.now) (term_of c.args.expr.now)
    c.into_parts-a-in-Binary.result.1 c.into_parts-b.result.1 c.in-Binary.ensures
    (c.in_ok-cut-in-Binary.ensures.dims ∙ ap Ok (sym c.into_parts-a-in-Binary.ensures.dims))
    (c.in_ok-cut-in-Binary-2.ensures.dims ∙ ap Ok (sym c.into_parts-b.ensures.dims))

pub dims_over-dims-requires-in-Ternary-clause-operands :
    goal.dims_over-dims-requires-in-Ternary-clause-operands
dims_over-dims-requires-in-Ternary-clause-operands t c =
    dims-ternary c.args.inputs.now.tensors (ternary_at c.in-Ternary.operation)
    (term_of c.in-Ternary.a.now) (term_of c.in-Ternary.b.now)
    (term_of c.in-Ternary.c.now) (term_of c.args.expr.now)
    c.into_parts-a-in-Ternary.result.1 c.into_parts-b-in-Ternary.result.1 c.into_parts-c.result.1
    c.in-Ternary.ensures
    (c.in_ok-cut-in-Ternary.ensures.dims ∙ ap Ok (sym c.into_parts-a-in-Ternary.ensures.dims))
    (c.in_ok-cut-in-Ternary-2.ensures.dims ∙ ap Ok (sym c.into_parts-b-in-Ternary.ensures.dims))
    (c.in_ok-cut-in-Ternary-3.ensures.dims ∙ ap Ok (sym c.into_parts-c.ensures.dims))
