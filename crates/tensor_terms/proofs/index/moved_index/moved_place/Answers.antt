use Rattle.std.proofs.Common.{arith, sym, ◌∙◌}
use Rattle.tensor_terms.specs.Tree.{movement_at}
use Rattle.tensor_terms.proofs.Moved.{IsIndexOf-moved}
use Rattle.tensor_terms.proofs.index.moved_index.moved_place.Goals as goal

pub linear-requires : goal.linear-requires
linear-requires c =
    let inside = IsIndexOf-moved (movement_at c.args.movement) c.args.dims.now c.unwrap-shape.result
    c.index_of-index.result.items (sym c.moved_dims.ensures ∙ c.unwrap-shape.ensures) c.index_of-index.ensures.index in
    grind (arith, inside)
