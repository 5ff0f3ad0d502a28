use Rattle.std.proofs.Common.{rules, ◌∙◌}
use Rattle.pool_barrier.proofs.Keeps.{flag_keeps}
use Rattle.pool_barrier.proofs.barrier.Barrier.wait.Goals as goal

pub loop-init : goal.loop-init
loop-init g c = record { can = tt; finite = tt; of = c.requires }

pub fetch_or-found-requires : goal.fetch_or-found-requires
fetch_or-found-requires g c =
    (search rules, search rules, flag_keeps _ _ _ _ _ c.loop.waiter.waits c.loop.waiter.none_held)

pub loop-preserved : goal.loop-preserved
loop-preserved g c = record {
  can = tt;
  finite = tt;
  of = c.fetch_or-found.ensures.0 ∙ c.loop.invariant.of;
}

pub loop-smaller : goal.loop-smaller
loop-smaller g c = (c.in-Some.ensures.goes.on tt).2
