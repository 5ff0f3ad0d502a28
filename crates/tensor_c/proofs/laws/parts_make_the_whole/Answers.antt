use Rattle.std.proofs.lemmas.List.{take_all}
use Rattle.tensor_c.proofs.Parts.{part-joined}
use Rattle.tensor_c.proofs.laws.parts_make_the_whole.Goals as goal

pub returns-clause-joined : goal.returns-clause-joined
returns-clause-joined c = part-joined

pub returns-clause-whole : goal.returns-clause-whole
returns-clause-whole c = λ values room long. take_all room values long
