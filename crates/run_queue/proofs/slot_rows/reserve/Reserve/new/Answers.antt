-- The list that the table begins with has the room.
use Rattle.std.proofs.Common.{rules, ◌≡◌, ◌∙◌, ◌∷◌, ◌++◌, [], ap, map}
use mathlib.Core.Option.{some}
use lib.ListN.{get_elem?}
use Rattle.run_queue.proofs.slot_rows.reserve.Reserve.new.Goals as goal

pub new-requires : goal.new-requires
new-requires g c =
    let list = c.in_ok-list.list in
    let one : c.push_reserved.new.self.items ≡ list ∷ [] =
    c.push_reserved.ensures.items ∙ ap (λ xs. xs ++ list ∷ []) c.in_ok-lists.ensures.items in (
      list,
      ap (λ xs. get_elem? (map some xs) 0) one,
      c.in_ok-list.ensures.items,
      search rules,
    )
