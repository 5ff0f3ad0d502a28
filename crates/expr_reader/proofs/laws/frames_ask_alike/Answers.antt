use Rattle.expr_reader.proofs.SameDims.{AskAlike-frame}
use Rattle.expr_reader.proofs.laws.frames_ask_alike.Goals as goal

pub returns : goal.returns
returns c = λ header values others long. AskAlike-frame values others long header
