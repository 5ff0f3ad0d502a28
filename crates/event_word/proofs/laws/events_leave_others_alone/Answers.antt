use Rattle.event_word.proofs.Frames.{events_leave_alone}
use Rattle.event_word.proofs.laws.events_leave_others_alone.Goals as goal

pub returns : goal.returns
returns c = events_leave_alone
