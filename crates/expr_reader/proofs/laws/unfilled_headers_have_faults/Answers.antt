use Rattle.expr_reader.proofs.Filled.{frame-no_text}
use Rattle.expr_reader.proofs.laws.unfilled_headers_have_faults.Goals as goal

pub returns : goal.returns
returns c = frame-no_text
