use Rattle.expr_reader.proofs.Arrays.{arrays-no_frame}
use Rattle.expr_reader.proofs.laws.other_arrays_have_faults.Goals as goal

pub returns : goal.returns
returns c = arrays-no_frame
