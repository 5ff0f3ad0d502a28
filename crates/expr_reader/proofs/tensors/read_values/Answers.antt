use Rattle.std.proofs.Common.{inr, refl, sym, arith}
use Rattle.serde_json.specs.View.{view, items_view}
use Rattle.serde_json.proofs.Views.{items_len-items_view}
use Rattle.expr_reader.proofs.Lists.{values_in-other, values_in-same}
use Rattle.expr_reader.proofs.tensors.read_values.Goals as goal

pub returns-then-len-size : goal.returns-then-len-size
returns-then-len-size c =
    let found = rw c.in_ok-list.ensures.ok_part at c.as_array.ensures in
    inr (
      refl,
      values_in-other c.args.size (view c.args.value.now) (items_view c.in_ok-list.list.now.items) (sym found)
          (λ same. c.if-len-size.true (omega (arith, items_len-items_view c.in_ok-list.list.now.items, c.in_ok-list.list.now.ok.0))),
    )

pub returns : goal.returns
returns c =
    let found = rw c.in_ok-list.ensures.ok_part at c.as_array.ensures in
    rw (values_in-same c.args.size (view c.args.value.now) (items_view c.in_ok-list.list.now.items) (sym found)
    (omega (arith, items_len-items_view c.in_ok-list.list.now.items, c.in_ok-list.list.now.ok.0, c.if-len-size.false)))
    c.read_list.ensures
