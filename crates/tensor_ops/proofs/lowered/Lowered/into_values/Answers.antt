use Rattle.std.proofs.Common.{length}
use Rattle.std.specs.Cow.{cow_slice_items}
use Rattle.std.proofs.lemmas.Result.{IfOk-weaker}
use Rattle.tensor_values.specs.Values.{value_in}
use Rattle.tensor_ops.specs.private.Lowering.{meaning_at}
use Rattle.tensor_ops.proofs.Worked.{values-given}
use Rattle.tensor_ops.proofs.lowered.Lowered.into_values.Goals as goal

pub returns : goal.returns
returns c =
    IfOk-weaker c.worked_out.result _ _
    (λ v values. values-given (length (cow_slice_items v)) (value_in (cow_slice_items v))
    c.in_ok-sunk.sunk c.args.dims.now (meaning_at c.args.self c.args.dims.now) values
    c.in_ok-sunk.ensures)
    c.worked_out.ensures
