use Rattle.run_queue.proofs.Lengths.{cover_ready}
use Rattle.run_queue.proofs.slot_rows.laws.lengths_cover_ready.Goals as goal

pub returns : goal.returns
returns g c = cover_ready g.F.Contents.fits c.requires
