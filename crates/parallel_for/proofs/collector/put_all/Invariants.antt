use Rattle.std.proofs.Common.{◌≡◌, vec_len, All}
use Rattle.std.specs.Vec.Iter.{into_iter_items}
use Rattle.parallel_for.specs.Leaves.{blocks_of}
use Rattle.parallel_for.specs.Pieces.{IsRight, ranges_of}
use Rattle.parallel_for.specs.Table.{rows_of, IsTable, missing}
use Rattle.parallel_for.proofs.Moves.{AreMoved}
use Rattle.parallel_for.proofs.collector.put_all.Given as goal

abbrev pub invariant-loop-piece : goal.invariant-loop-piece
invariant-loop-piece g l = record {
  can : (goal.iterator-loop-piece g).can_next l.piece-iterator;
  finite : (goal.iterator-loop-piece g).is_finite l.piece-iterator;
  right : All (IsRight (g.K.Kernel.item_at l.kernel)) (into_iter_items l.piece-iterator);
  table : IsTable l.n l.block (g.K.Kernel.item_at l.kernel) 0 (rows_of l.table.items);
  long : vec_len l.table ≡ blocks_of l.n l.block;
  moved : AreMoved (missing l.n l.block 0 (rows_of l.fn.table.items))
      (ranges_of l.fn.pieces.items)
      (missing l.n l.block 0 (rows_of l.table.items))
      (ranges_of (into_iter_items l.piece-iterator));
}
