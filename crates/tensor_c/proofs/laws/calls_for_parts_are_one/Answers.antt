use Rattle.tensor_c.proofs.Parts.{calls-joined}
use Rattle.tensor_c.proofs.laws.calls_for_parts_are_one.Goals as goal

pub returns : goal.returns
returns c = calls-joined
