use Rattle.event_count.proofs.RowSteps.Present.{stop_wakes}
use Rattle.event_count.proofs.RowSteps.Stopping.{notified_show}
use Rattle.event_count.proofs.laws.stop_wakes_all.Goals as goal

pub returns-clause-wakes : goal.returns-clause-wakes
returns-clause-wakes c = stop_wakes

pub returns-clause-notified : goal.returns-clause-notified
returns-clause-notified c = notified_show
