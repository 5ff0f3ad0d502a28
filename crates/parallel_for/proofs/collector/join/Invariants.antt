use Rattle.std.proofs.Common.{◌≡◌, ◌-◌, ◌*◌, ◌≤◌, min, length, vec_capacity}
use Rattle.std.specs.Vec.Iter.{into_iter_items}
use Rattle.parallel_for.specs.Leaves.{blocks_of}
use Rattle.parallel_for.specs.Items.{AreItems}
use Rattle.parallel_for.specs.Table.{rows_of, IsTable, missing}
use Rattle.parallel_for.proofs.collector.join.Given as goal

abbrev pub invariant-loop-items : goal.invariant-loop-items
invariant-loop-items g l =
    let left = into_iter_items l.items-iterator in
    let done = blocks_of l.n l.block - length left in record {
      can : (goal.iterator-loop-items g).can_next l.items-iterator;
      finite : (goal.iterator-loop-items g).is_finite l.items-iterator;
      few : length left ≤ blocks_of l.n l.block;
      table : IsTable l.n l.block (g.K.Kernel.item_at l.kernel) done (rows_of left);
      items : AreItems (g.K.Kernel.item_at l.kernel) 0 (min (done * l.block) l.n) l.joined.items;
      same : missing l.n l.block 0 (rows_of l.fn.table.items)
          ≡ missing l.n l.block done (rows_of left);
      room : l.n ≤ vec_capacity l.joined;
    }
