use Rattle.worker_pool.proofs.entry.with_pool.Goals as goal

pub with_pool_limited-requires-clause-stays : goal.with_pool_limited-requires-clause-stays
with_pool_limited-requires-clause-stays g c κs within = λ before after met is few.
    c.requires.stays before after met is
