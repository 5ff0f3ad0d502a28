use Rattle.run_queue.proofs.Lengths.{are_bounded}
use Rattle.run_queue.proofs.slot_rows.laws.lengths_are_bounded.Goals as goal

pub returns : goal.returns
returns g c = are_bounded g.F.Contents.fits c.requires
