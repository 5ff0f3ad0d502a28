use Rattle.std.proofs.Common.{sym, arith}
use Rattle.serde_json.specs.View.{view}
use Rattle.serde_json.proofs.Views.{items_len-items_view}
use Rattle.expr_reader.proofs.Lists.{dims_in-long}
use Rattle.expr_reader.proofs.tensors.read_dims.Goals as goal

pub returns-then-len-bounds-clause-dims : goal.returns-then-len-bounds-clause-dims
returns-then-len-bounds-clause-dims c =
    sym (dims_in-long c.args.bounds (view c.args.value.now) _ (sym c.in_ok-list.ensures)
    (omega (arith, items_len-items_view c.in_ok-list.list.now.items, c.in_ok-list.list.now.ok.0)))
