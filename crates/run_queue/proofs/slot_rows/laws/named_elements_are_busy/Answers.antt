use Rattle.run_queue.proofs.Moments.{named_busy}
use Rattle.run_queue.proofs.slot_rows.laws.named_elements_are_busy.Goals as goal

pub returns : goal.returns
returns g c = named_busy g.F.Contents.fits
