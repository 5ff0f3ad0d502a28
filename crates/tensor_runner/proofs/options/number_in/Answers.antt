use Rattle.tensor_runner.proofs.OptionWords.{number_in-Ok, number_in-Err}
use Rattle.tensor_runner.proofs.options.number_in.Goals as goal

pub returns-in-Ok : goal.returns-in-Ok
returns-in-Ok c = rw c.in-Some.is (number_in-Ok c.in-Some.word.now c.in-Ok.number c.in-Ok.ensures.value.0)

pub returns-in-Err : goal.returns-in-Err
returns-in-Err c = rw c.in-Some.is (number_in-Err c.in-Some.word.now c.in-Err.ensures.value.0)
