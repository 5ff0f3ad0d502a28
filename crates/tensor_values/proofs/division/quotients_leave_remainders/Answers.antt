use Rattle.tensor_values.proofs.Rests.{divided}
use Rattle.tensor_values.proofs.division.quotients_leave_remainders.Goals as goal

pub returns : goal.returns
returns c = divided
