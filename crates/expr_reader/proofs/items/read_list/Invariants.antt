-- The items so far, before those of the rest, are those of the whole list; there is room for the rest.
use Rattle.std.proofs.Common.{◌≡◌, length, drop, vec_capacity}
use Rattle.serde_json.specs.View.{items_view}
use Rattle.expr_reader.specs.Fields.{each_of}
use Rattle.expr_reader.proofs.Lists.{after}
use Rattle.expr_reader.proofs.items.read_list.Given as goal

abbrev pub invariant-loop-item : goal.invariant-loop-item
invariant-loop-item g l =
    (length l.items.items ≡ l.item-index)
    × (vec_capacity l.items ≡ length l.item-items)
    × (after l.items.items (each_of g.T.Item.item_in (items_view (drop l.item-index l.item-items)))
    ≡ each_of g.T.Item.item_in (items_view l.item-items))
