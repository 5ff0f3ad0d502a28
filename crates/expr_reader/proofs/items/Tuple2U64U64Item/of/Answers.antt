use Rattle.std.proofs.Common.{sym, arith}
use Rattle.serde_json.specs.View.{view, items_view}
use Rattle.serde_json.proofs.Views.{items_len-items_view}
use Rattle.expr_reader.proofs.Lists.{pair_in-other}
use Rattle.expr_reader.proofs.items.Tuple2U64U64Item.of.Goals as goal

pub returns-in_default : goal.returns-in_default
returns-in_default c =
    let items = c.in_ok-as_array.field-0.now.items in
    sym (pair_in-other (view c.args.value.now) (items_view items) (sym c.in_ok-as_array.ensures)
    (λ two. omega (arith, c.in_default.len_below, c.as_slice.ensures.value, items_len-items_view items, two)))

pub returns-in_default-2 : goal.returns-in_default-2
returns-in_default-2 c =
    let items = c.in_ok-as_array.field-0.now.items in
    sym (pair_in-other (view c.args.value.now) (items_view items) (sym c.in_ok-as_array.ensures)
    (λ two. omega (arith, c.in_default.len_at_least, c.as_slice.ensures.value, items_len-items_view items, two)))
