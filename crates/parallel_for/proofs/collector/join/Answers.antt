use Rattle.std.proofs.Common.{◌≡◌, ◌∙◌, ◌+◌, ◌-◌, ◌<◌, ◌∷◌, ℕ, length, refl, ap, sym, subst}
use Rattle.std.proofs.Common.{arith, rules}
use Rattle.std.specs.Vec.Iter.{into_iter_items}
use Rattle.parallel_for.specs.Leaves.{blocks_of}
use Rattle.parallel_for.specs.Table.{rows_of, IsTable, missing}
use Rattle.parallel_for.proofs.Rows.{IsTable-head, joined-none, joined-more, room-more, joined-all}
use Rattle.parallel_for.proofs.Rows.{missing-head, some-at-head}
use Rattle.parallel_for.proofs.collector.join.Goals as goal

pub loop-items-init : goal.loop-items-init
loop-items-init g c =
    let all = c.into_iter-items-iterator.ensures.into_iter_gives.0 in
    let count = blocks_of c.args.n c.args.block in
    let long : length (into_iter_items c.into_iter-items-iterator.result) ≡ count =
    omega (arith, ap length all, c.args.table.ok.0, c.requires.long) in
    let none : count - length (into_iter_items c.into_iter-items-iterator.result) ≡ 0 =
    omega (arith, long) in
    record {
      can = tt;
      finite = tt;
      few = omega (arith, long);
      table = rw (none, all) c.requires.table;
      items = joined-none c.args.n c.args.block _ _ _ none c.in_ok-joined.ensures.items;
      same = rw (none, all) refl;
      room = c.in_ok-joined.ensures.room;
    }

pub append-requires : goal.append-requires
append-requires g c =
    let item_at = g.K.Kernel.item_at c.args.kernel.now in
    let n = c.args.n in
    let b = c.args.block in
    let row = c.in-Some.items in
    let before = into_iter_items c.loop-items.items-iterator in
    let after = into_iter_items c.next.new.self in
    let split : before ≡ row ∷ after = c.in-Some.ensures.steps.0 in
    let less = ap length split in
    let i = blocks_of n b - length before in
    let some =
    some-at-head n b i row.items (rows_of after) (rows_of before)
    (missing n b 0 (rows_of c.args.table.items)) (ap rows_of split) c.loop-items.invariant.same
    c.requires.whole in
    let head =
    IsTable-head n b item_at i row.items (rows_of after) (rows_of before) (ap rows_of split) some
    c.loop-items.invariant.table in
    let below : i < blocks_of n b = omega (arith, c.loop-items.invariant.few) in
    omega (
      arith,
      c.loop-items.invariant.room,
      room-more n b item_at i c.loop-items.joined.items row.items c.requires.some below
          c.loop-items.invariant.items head.0,
    )

pub loop-items-preserved : goal.loop-items-preserved
loop-items-preserved g c =
    let item_at = g.K.Kernel.item_at c.args.kernel.now in
    let n = c.args.n in
    let b = c.args.block in
    let row = c.in-Some.items in
    let before = into_iter_items c.loop-items.items-iterator in
    let after = into_iter_items c.next.new.self in
    let split : before ≡ row ∷ after = c.in-Some.ensures.steps.0 in
    let less = ap length split in
    let i = blocks_of n b - length before in
    let j = blocks_of n b - length after in
    let next : j ≡ i + 1 = omega (arith, c.loop-items.invariant.few) in
    let below : i < blocks_of n b = omega (arith, c.loop-items.invariant.few) in
    let some =
    some-at-head n b i row.items (rows_of after) (rows_of before)
    (missing n b 0 (rows_of c.args.table.items)) (ap rows_of split) c.loop-items.invariant.same
    c.requires.whole in
    let head =
    IsTable-head n b item_at i row.items (rows_of after) (rows_of before) (ap rows_of split) some
    c.loop-items.invariant.table in
    record {
      can = tt;
      finite = tt;
      few = omega (arith, c.loop-items.invariant.few);
      table = subst (λ (k : ℕ). IsTable n b item_at k (rows_of after)) (sym next) head.1;
      items =
          joined-more n b item_at i j c.loop-items.joined.items row.items _ c.requires.some below
          next c.loop-items.invariant.items head.0 c.append.ensures.items;
      same =
          c.loop-items.invariant.same
          ∙ missing-head n b i j row.items (rows_of after) (rows_of before) (ap rows_of split)
          next some;
      room = omega (arith, c.append.ensures.capacity, c.loop-items.invariant.room);
    }

pub loop-items-smaller : goal.loop-items-smaller
loop-items-smaller g c = omega (arith, c.in-Some.ensures.steps.1)

pub returns : goal.returns
returns g c =
    let rest = into_iter_items c.loop-items.items-iterator in
    let none : length rest ≡ 0 = search rules in
    let i = blocks_of c.args.n c.args.block - length rest in record {
      items =
          joined-all c.args.n c.args.block (g.K.Kernel.item_at c.args.kernel.now) i _
          c.requires.some (omega arith) c.loop-items.invariant.items;
    }
