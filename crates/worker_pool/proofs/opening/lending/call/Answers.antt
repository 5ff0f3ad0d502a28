use Rattle.std.proofs.Common.{refl}
use Rattle.worker_pool.proofs.opening.lending.call.Goals as goal

pub returns-clause-stays : goal.returns-clause-stays
returns-clause-stays g c =
    c.requires.stays _ _ (record { shown = _; shows = refl; left = _; met = c.body.ensures; leaves = refl })
    c.requires.caller refl
