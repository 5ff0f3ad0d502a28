use Rattle.std.proofs.Common.{arith, rules, ◌≡◌, List, All, length, subst, sym, ap}
use Rattle.std.proofs.lemmas.List.Elements.{All-rest, All-head, All-same}
use Rattle.std.specs.Vec.Iter.{into_iter_items}
use Rattle.parallel_for.specs.Leaves.{Range, blocks_of, leaves_of}
use Rattle.parallel_for.specs.Pieces.{IsRight, ranges_of, all_ranges}
use Rattle.parallel_for.specs.Table.{IsTable}
use Rattle.parallel_for.proofs.Rows.{IsTable-blank, items-none}
use Rattle.parallel_for.proofs.Moves.{AreMoved, AreMoved-start, AreMoved-list}
use Rattle.parallel_for.proofs.Moves.{missing-leaves, still-among, none-missing}
use Rattle.parallel_for.proofs.collector.collect.Goals as goal

pub loop-pieces-init : goal.loop-pieces-init
loop-pieces-init g c =
    let item_at = g.K.Kernel.item_at c.args.kernel.now in
    let n = c.args.n in
    let b = c.args.block in
    let all = c.into_iter-pieces-iterator.ensures.into_iter_gives.0 in
    let blank = c.in_ok-table.ensures.rows in
    record {
      can = tt;
      finite = tt;
      right = All-same (λ pieces. All (IsRight item_at) pieces.items) _ _ all c.requires.right;
      table =
          subst (IsTable n b item_at 0) (sym blank) (IsTable-blank n b item_at 0 (blocks_of n b));
      long = c.in_ok-table.ensures.long;
      moved =
          subst
          (λ (now : List Range).
          AreMoved (leaves_of 0 n b) (all_ranges c.args.lists.items) now
          (all_ranges (into_iter_items c.into_iter-pieces-iterator.result)))
          (sym (missing-leaves n b _ blank)) (AreMoved-start _ _ _ (ap all_ranges all));
    }

pub put_all-requires-clause-right : goal.put_all-requires-clause-right
put_all-requires-clause-right g c =
    let item_at = g.K.Kernel.item_at c.args.kernel.now in
    All-head (λ pieces. All (IsRight item_at) pieces.items) c.in-Some.pieces _
    (subst (All (λ pieces. All (IsRight item_at) pieces.items)) c.in-Some.ensures.steps.0
    c.loop-pieces.invariant.right)

pub loop-pieces-preserved : goal.loop-pieces-preserved
loop-pieces-preserved g c =
    let item_at = g.K.Kernel.item_at c.args.kernel.now in
    let pieces = c.in-Some.pieces in
    let split = c.in-Some.ensures.steps.0 in
    record {
      can = tt;
      finite = tt;
      right =
          All-rest (λ list. All (IsRight item_at) list.items) pieces _ _ split
          c.loop-pieces.invariant.right;
      table = c.put_all.ensures.table;
      long = c.put_all.ensures.long;
      moved =
          AreMoved-list _ _ _ _ (ranges_of pieces.items)
          (all_ranges (into_iter_items c.next.new.self)) _ (ap all_ranges split)
          c.loop-pieces.invariant.moved c.put_all.ensures.taken;
    }

pub put_all-requires-clause-missing : goal.put_all-requires-clause-missing
put_all-requires-clause-missing g c =
    still-among _ _ _ _ (ranges_of c.in-Some.pieces.items)
    (all_ranges (into_iter_items c.next.new.self)) (ap all_ranges c.in-Some.ensures.steps.0)
    c.loop-pieces.invariant.moved c.requires.covered

pub join-requires-clause-whole : goal.join-requires-clause-whole
join-requires-clause-whole g c =
    let rest = into_iter_items c.loop-pieces.pieces-iterator in
    let none : length rest ≡ 0 = search rules in
    none-missing _ _ _ _ (ap all_ranges (items-none rest none)) c.loop-pieces.invariant.moved
    c.requires.covered

pub loop-pieces-smaller : goal.loop-pieces-smaller
loop-pieces-smaller g c = omega (arith, c.in-Some.ensures.steps.1)
