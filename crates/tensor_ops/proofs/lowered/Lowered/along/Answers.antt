use Rattle.std.proofs.Common.{length, refl}
use Rattle.std.specs.Cow.{cow_slice_items}
use Rattle.tensor_values.specs.Values.{value_in}
use Rattle.tensor_ops.specs.declared.lowered.Lowered.TheVariants.{Borrowed, Stored}
use Rattle.tensor_ops.proofs.Sunk.{values-along, values-followed}
use Rattle.tensor_ops.proofs.lowered.Lowered.along.Goals as goal

pub returns-in-Borrowed : goal.returns-in-Borrowed
returns-in-Borrowed c =
    let list = c.in-Borrowed.values in
    rw c.in-Borrowed.is
    (values-along (Borrowed list) list.now c.args.view.start c.args.view.axes.items c.args.dims.now
    (record { count = refl; each = λ p. refl }) c.requires.count)

pub returns-in-Stored : goal.returns-in-Stored
returns-in-Stored c =
    let list = c.in-Stored.values in
    rw c.in-Stored.is
    (values-along (Stored list) list.items c.args.view.start c.args.view.axes.items c.args.dims.now
    (record { count = refl; each = λ p. refl }) c.requires.count)

pub returns-in_ok-worked_out-in_default : goal.returns-in_ok-worked_out-in_default
returns-in_ok-worked_out-in_default c =
    let list = cow_slice_items c.in_ok-worked_out-in_default.field-0 in
    values-followed (length list) (value_in list) c.in_ok-viewed-in_default.viewed c.args.self
    c.args.view.start c.args.view.axes.items c.args.dims.now c.requires.count
    c.in_ok-viewed-in_default.ensures c.in_ok-worked_out-in_default.ensures
