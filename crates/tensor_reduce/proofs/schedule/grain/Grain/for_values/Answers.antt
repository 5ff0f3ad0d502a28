use Rattle.tensor_reduce.proofs.schedule.grain.Grain.for_values.Goals as goal

pub returns-clause-workers : goal.returns-clause-workers
returns-clause-workers c = (c.new.result, (c.new.ensures, c.for_load.ensures.workers))
