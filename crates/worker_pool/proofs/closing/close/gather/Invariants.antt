use Rattle.std.proofs.Common.{◌≡◌, ◌+◌, length, All}
use Rattle.std.specs.Vec.Iter.{into_iter_items}
use Rattle.worker_pool.specs.Gathered.{HasGathered, HasRoom, count_of}
use Rattle.worker_pool.specs.Works.{IsAtWork}
use Rattle.worker_pool.proofs.closing.close.gather.Given as goal

-- those that are left are at work, and there is room for them and one more
abbrev pub invariant-loop-home : goal.invariant-loop-home
invariant-loop-home g l = record {
  can : (goal.iterator-loop-home g).can_next l.home-iterator;
  finite : (goal.iterator-loop-home g).is_finite l.home-iterator;
  ready : All (λ home. g.Q.Queue.is_ready l.queue home.state.seat)
      (into_iter_items l.home-iterator);
  many : count_of l.gathered + length (into_iter_items l.home-iterator) ≡ length l.fn.homes.items;
  room : HasRoom (length (into_iter_items l.home-iterator) + 1) l.gathered;
  home : (pool : _) → (ctx : _)
      → All (λ home. IsAtWork g.Q.Queue g.J.Job pool ctx home.state) l.fn.homes.items
      → All (λ home. IsAtWork g.Q.Queue g.J.Job pool ctx home.state)
      (into_iter_items l.home-iterator)
      × HasGathered g.Q.Queue l.queue g.J.Job ctx l.gathered;
}
