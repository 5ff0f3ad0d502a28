use Rattle.expr_reader.proofs.Filled.{frame-text}
use Rattle.expr_reader.proofs.laws.frames_mean_texts.Goals as goal

pub returns : goal.returns
returns c = frame-text
