use Rattle.run_queue.proofs.Moments.{puts_balance}
use Rattle.run_queue.proofs.slot_rows.laws.puts_are_takes_and_ready.Goals as goal

pub returns : goal.returns
returns g c = puts_balance g.F.Contents.fits
