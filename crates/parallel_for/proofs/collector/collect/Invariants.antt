use Rattle.std.proofs.Common.{◌≡◌, vec_len, All}
use Rattle.std.specs.Vec.Iter.{into_iter_items}
use Rattle.parallel_for.specs.Leaves.{blocks_of, leaves_of}
use Rattle.parallel_for.specs.Pieces.{IsRight, all_ranges}
use Rattle.parallel_for.specs.Table.{rows_of, IsTable, missing}
use Rattle.parallel_for.proofs.Moves.{AreMoved}
use Rattle.parallel_for.proofs.collector.collect.Given as goal

abbrev pub invariant-loop-pieces : goal.invariant-loop-pieces
invariant-loop-pieces g l =
    let item_at = g.K.Kernel.item_at l.kernel in
    let left = into_iter_items l.pieces-iterator in record {
      can : (goal.iterator-loop-pieces g).can_next l.pieces-iterator;
      finite : (goal.iterator-loop-pieces g).is_finite l.pieces-iterator;
      right : All (λ pieces. All (IsRight item_at) pieces.items) left;
      table : IsTable l.n l.block item_at 0 (rows_of l.table.items);
      long : vec_len l.table ≡ blocks_of l.n l.block;
      moved : AreMoved (leaves_of 0 l.n l.block) (all_ranges l.fn.lists.items)
          (missing l.n l.block 0 (rows_of l.table.items)) (all_ranges left);
    }
