use Rattle.expr_reader.proofs.Arrays.{arrays-frame}
use Rattle.expr_reader.proofs.laws.arrays_mean_frames.Goals as goal

pub returns : goal.returns
returns c = arrays-frame
