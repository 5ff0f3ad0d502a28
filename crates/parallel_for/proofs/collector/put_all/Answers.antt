use Rattle.std.proofs.Common.{arith, rules, ◌≡◌, All, ap, length, subst}
use Rattle.std.proofs.lemmas.List.Elements.{All-head, All-rest, All-same}
use Rattle.std.specs.Vec.Iter.{into_iter_items}
use Rattle.parallel_for.specs.Pieces.{IsRight, ranges_of}
use Rattle.parallel_for.proofs.Rows.{items-none}
use Rattle.parallel_for.proofs.Moves.{AreMoved-start, AreMoved-one, IsTaken-all, still-missing}
use Rattle.parallel_for.proofs.collector.put_all.Goals as goal

pub loop-piece-init : goal.loop-piece-init
loop-piece-init g c =
    let all = c.into_iter-piece-iterator.ensures.into_iter_gives.0 in
    record {
      can = tt;
      finite = tt;
      right =
          All-same (IsRight (g.K.Kernel.item_at c.args.kernel.now)) _ _ all c.requires.right;
      table = c.requires.table;
      long = c.requires.long;
      moved = AreMoved-start _ _ _ (ap ranges_of all);
    }

pub put-requires-clause-right : goal.put-requires-clause-right
put-requires-clause-right g c =
    let is_right = IsRight (g.K.Kernel.item_at c.args.kernel.now) in
    All-head is_right c.in-Some.piece (into_iter_items c.next.new.self)
    (subst (All is_right) c.in-Some.ensures.steps.0 c.loop-piece.invariant.right)

pub loop-piece-preserved : goal.loop-piece-preserved
loop-piece-preserved g c =
    let p = c.in-Some.piece in
    let split = c.in-Some.ensures.steps.0 in
    record {
      can = tt;
      finite = tt;
      right =
          All-rest (IsRight (g.K.Kernel.item_at c.args.kernel.now)) p _ _ split
          c.loop-piece.invariant.right;
      table = c.put.ensures.table;
      long = c.put.ensures.long;
      moved =
          AreMoved-one _ _ _ _ (p.first, p.last) _ _ (ap ranges_of split)
          c.loop-piece.invariant.moved c.put.ensures.taken;
    }

pub loop-piece-smaller : goal.loop-piece-smaller
loop-piece-smaller g c = omega (arith, c.in-Some.ensures.steps.1)

pub put-requires-clause-missing : goal.put-requires-clause-missing
put-requires-clause-missing g c =
    let p = c.in-Some.piece in
    still-missing _ _ _ _ (p.first, p.last) (ranges_of (into_iter_items c.next.new.self))
    (ap ranges_of c.in-Some.ensures.steps.0) c.loop-piece.invariant.moved c.requires.missing

pub returns-clause-taken : goal.returns-clause-taken
returns-clause-taken g c =
    let rest = into_iter_items c.loop-piece.piece-iterator in
    let none : length rest ≡ 0 = search rules in
    IsTaken-all _ _ _ _ (ap ranges_of (items-none rest none)) c.loop-piece.invariant.moved
