use Rattle.std.proofs.Common.{◌≡◌, ◌+◌, ◌-◌, ◌<◌, length, ap, sym, ◌∙◌, arith}
use Rattle.tensor_ops.specs.Contents.{input_of}
use Rattle.expr_reader.specs.Bindings.{terms_under}
use Rattle.expr_reader.proofs.Bound.{worked_out-before, dims-binding}
use Rattle.expr_reader.proofs.named.NamedInputs.dims.Goals as goal

pub returns-then-number-count : goal.returns-then-number-count
returns-then-number-count c = λ bounds n named.
    c.dims.ensures
    ∙ ap (λ t. t.dims) (sym (worked_out-before (terms_under c.args.self.now.bindings.items) c.args.self.now.inputs.tensors c.args.number
    (omega (arith, c.len-count.ensures, c.if-number-count.true)))
    ∙ ap (λ ts. input_of ts c.args.number) named.tensors)

pub returns : goal.returns
returns c = λ bounds n named.
    ap (λ b. b.dims) c.index.ensures
    ∙ sym (dims-binding bounds named.possible c.args.self.now.bindings.items c.args.self.now.inputs.tensors c.args.number
    (c.args.number - c.len-count.result) c.index.result.now named.bound
    (omega (arith, c.len-count.ensures, c.if-number-count.false))
    (omega (arith, c.len-count.ensures, c.if-number-count.false, c.requires)))
    ∙ ap (λ ts. (input_of ts c.args.number).dims) named.tensors
