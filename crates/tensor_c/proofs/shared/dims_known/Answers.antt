use Rattle.std.proofs.Common.{◌-◌, ap, sym, ◌∙◌, arith}
use Rattle.expr_reader.specs.Bindings.{terms_under}
use Rattle.expr_reader.proofs.Bindings.{AreBound-request}
use Rattle.expr_reader.proofs.Bound.{worked_out-before, dims-binding}
use Rattle.tensor_c.proofs.shared.dims_known.Goals as goal

pub returns-then-number-count : goal.returns-then-number-count
returns-then-number-count c =
    let r = c.args.request.now in
    c.dims.ensures
    ∙ ap (λ t. t.dims) (c.get.ensures
    ∙ sym (worked_out-before (terms_under r.bindings.items) r.inputs.tensors c.args.number
    (omega (arith, c.len-count.ensures, c.if-number-count.true))))

pub returns : goal.returns
returns c =
    let r = c.args.request.now in
    ap (λ b. b.dims) c.index.ensures
    ∙ sym (dims-binding r.inputs.bounds c.bounds-limit.ensures.limit r.bindings.items r.inputs.tensors c.args.number
    (c.args.number - c.len-count.result) c.index.result.now (AreBound-request r)
    (omega (arith, c.len-count.ensures, c.if-number-count.false))
    (omega (arith, c.len-count.ensures, c.if-number-count.false, c.requires)))
