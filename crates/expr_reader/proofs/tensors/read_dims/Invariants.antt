-- The sizes so far, before those of the rest, are those of the whole list.
use Rattle.std.proofs.Common.{◌≡◌, length, drop}
use Rattle.serde_json.specs.View.{items_view}
use Rattle.expr_reader.specs.Fields.{whole_of, each_of}
use Rattle.expr_reader.proofs.Lists.{after}
use Rattle.expr_reader.proofs.tensors.read_dims.Given as goal

abbrev pub invariant-loop-size : goal.invariant-loop-size
invariant-loop-size l =
    (length l.sizes.items ≡ l.size-index)
    × (after l.sizes.items (each_of whole_of (items_view (drop l.size-index l.size-items)))
    ≡ each_of whole_of (items_view l.size-items))
