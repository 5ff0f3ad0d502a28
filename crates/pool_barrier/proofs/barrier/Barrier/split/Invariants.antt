use Rattle.pool_barrier.proofs.barrier.Barrier.split.Given as goal

abbrev pub ghosts-split_by : goal.ghosts-split_by
ghosts-split_by g a = record { amount = a.k }
