use Rattle.expr_reader.proofs.Versions.{data_asked-other}
use Rattle.expr_reader.proofs.laws.frames_keep_versions.Goals as goal

pub returns : goal.returns
returns c = data_asked-other
