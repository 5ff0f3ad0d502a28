use Rattle.std.proofs.Common.{◌≡◌, ◌-◌, length, get_or, ap, sym, ◌∙◌, arith}
use Rattle.tensor_runner.proofs.DimsAlone.{dims-input, dims-binding}
use Rattle.tensor_runner.proofs.known.Known.dims.Goals as goal

pub returns-then-number-count : goal.returns-then-number-count
returns-then-number-count c =
    let known = c.args.self.now in
    c.copied.ensures ∙ c.dims.ensures ∙ ap (λ t. t.dims) c.get.ensures
    ∙ sym (dims-input known.inputs.now.tensors known.bindings.now c.args.number (omega (arith, c.len-count.ensures)))

pub returns : goal.returns
returns c =
    let known = c.args.self.now in
    let place : c.args.number - c.len-count.result ≡ c.args.number - length known.inputs.now.tensors =
    omega (arith, c.len-count.ensures) in
    c.copied-2.ensures ∙ ap (λ b. b.dims) (sym c.index-self-number.is)
    ∙ dims-binding known.inputs.now.tensors known.bindings.now c.args.number c.index-self-number.result
    (omega (arith, c.len-count.ensures)) c.requires
    (c.index-self-number.is ∙ ap (λ n. get_or known.bindings.now n c.index-self-number.result) place)
