use Rattle.tensor_c.proofs.Planned.{plan-answers}
use Rattle.tensor_c.proofs.laws.plans_answer_for_headers.Goals as goal

pub returns : goal.returns
returns c = λ header values arrays a is few. plan-answers values arrays header a is few
