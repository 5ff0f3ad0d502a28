use Rattle.run_queue.proofs.Moments.{jobs_fit}
use Rattle.run_queue.proofs.slot_rows.laws.ready_jobs_fit.Goals as goal

pub returns : goal.returns
returns g c = jobs_fit g.F.Contents.fits
