use Rattle.std.proofs.Common.{rules, ◌≡◌, ◌+◌, ap, arith, length, subst, sym}
use Rattle.std.proofs.lemmas.List.Elements.{All-same}
use Rattle.std.specs.Vec.Iter.{into_iter_items}
use Rattle.worker_pool.specs.Gathered.{HasRoom}
use Rattle.worker_pool.specs.Works.{IsAtWork}
use Rattle.worker_pool.proofs.Closings.{gathers-more, gathers-none}
use Rattle.worker_pool.proofs.Growing.{All-first, All-rest, length-snoc}
use Rattle.worker_pool.proofs.closing.close.gather.Goals as goal

pub loop-home-init : goal.loop-home-init
loop-home-init g c =
    let all = c.into_iter-home-iterator.ensures.into_iter_gives.0 in
    let none = ap length c.requires.none.no_rows in
    let long = ap length all in
    record {
      can = tt;
      finite = tt;
      ready = All-same (λ home. g.Q.Queue.is_ready c.args.queue.now home.state.seat) _ _ all
          c.requires.ready;
      many = omega arith;
      room = subst (λ homes. HasRoom (length homes + 1) c.args.gathered) (sym all) c.requires.room;
      home = λ pool ctx at_work. (
        All-same (λ home. IsAtWork g.Q.Queue g.J.Job pool ctx home.state) _ _ all at_work,
        gathers-none _ _ _ _ _ c.requires.none,
      );
    }

pub add-requires-clause-ready : goal.add-requires-clause-ready
add-requires-clause-ready g c =
    All-first (λ home. g.Q.Queue.is_ready c.args.queue.now home.state.seat) _ _ _
    c.in-Some.ensures.steps.0 c.loop-home.invariant.ready

pub add-requires-clause-room : goal.add-requires-clause-room
add-requires-clause-room g c =
    let room = c.loop-home.invariant.room in
    let rows = room.for_rows in
    let wakers = room.for_wakers in
    let lists = room.for_lists in
    record {
      for_rows = omega arith;
      for_wakers = omega arith;
      for_lists = omega arith;
    }

pub loop-home-preserved : goal.loop-home-preserved
loop-home-preserved g c =
    let before = c.loop-home.invariant in
    let split = c.in-Some.ensures.steps.0 in
    let adds = c.add.ensures.adds in
    let rest = into_iter_items c.next.new.self in
    let shorter = ap length split in
    let longer = length-snoc _ _ _ adds.rows in
    let many = before.many in
    let one_less : length (into_iter_items c.loop-home.home-iterator) + 1 ≡ length rest + 1 + 1 =
    omega arith in
    record {
      can = tt;
      finite = tt;
      ready = All-rest (λ home. g.Q.Queue.is_ready c.args.queue.now home.state.seat) _ _ _ split
          before.ready;
      many = omega arith;
      room = c.add.ensures.room (length rest + 1)
          (subst (λ more. HasRoom more c.loop-home.gathered) one_less before.room);
      home = λ pool ctx start.
          let home = before.home pool ctx start in
          let one = All-first (λ home. IsAtWork g.Q.Queue g.J.Job pool ctx home.state) _ _ _ split
          home.0 in (
            All-rest (λ home. IsAtWork g.Q.Queue g.J.Job pool ctx home.state) _ _ _ split home.0,
            gathers-more _ _ pool _ ctx _ _ _ one adds home.1,
          );
    }

pub returns : goal.returns
returns g c =
    let end = c.loop-home.invariant in
    let rest = into_iter_items c.loop-home.home-iterator in
    let none : length rest ≡ 0 = search rules in
    let many = end.many in
    record {
      many = omega arith;
      room = subst (λ n. HasRoom (n + 1) c.loop-home.gathered) none end.room;
      home = λ pool ctx start. (end.home pool ctx start).1;
    }
