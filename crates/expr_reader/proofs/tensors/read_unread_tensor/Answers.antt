use Rattle.std.proofs.Common.{◌≡◌, pos, Some, length, replicate, ap, sym, ◌∙◌, arith}
use Rattle.std.proofs.lemmas.List.{length-replicate}
use Rattle.std.proofs.lemmas.Result.{err_from_is_err_and}
use Rattle.tensor_ops.specs.Index.{size_of}
use Rattle.expr_reader.proofs.Unread.{taken-zeroes}
use Rattle.expr_reader.proofs.tensors.read_unread_tensor.Goals as goal

pub returns-clause-tensor : goal.returns-clause-tensor
returns-clause-tensor c =
    let count = c.args.count in
    c.in_ok-dims.ensures.dims (replicate count (pos 0)) (length-replicate count (pos 0))
    ∙ ap Some (taken-zeroes count c.in_ok-dims.dims c.in_ok-dims.ensures.few ∙ sym c.unread.ensures)

pub returns-clause-few : goal.returns-clause-few
returns-clause-few c =
    omega (
      arith,
      ap (λ t. length t.values) c.unread.ensures,
      length-replicate (size_of c.in_ok-dims.dims) (pos 0),
      length-replicate c.args.count (pos 0),
      c.in_ok-dims.ensures.few,
    )

pub returns-in_err-dims-clause-tensor : goal.returns-in_err-dims-clause-tensor
returns-in_err-dims-clause-tensor c =
    let count = c.args.count in
    let p = err_from_is_err_and c.from_residual.result c.from_residual.ensures.1 in
    rw (p.1, p.2) (c.in_err-dims.ensures.dims (replicate count (pos 0)) (length-replicate count (pos 0)))
