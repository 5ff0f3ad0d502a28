use Rattle.run_queue.proofs.Moments.{busy_named}
use Rattle.run_queue.proofs.slot_rows.laws.busy_elements_are_named.Goals as goal

pub returns : goal.returns
returns g c = busy_named g.F.Contents.fits
