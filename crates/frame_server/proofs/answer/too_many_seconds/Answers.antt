use Rattle.std.proofs.Common.{refl}
use Rattle.std.specs.Fmt.{digits}
use Rattle.frame_server.specs.Frame.{number_bytes}
use Rattle.frame_server.proofs.answer.too_many_seconds.Goals as goal

pub returns-clause-bytes : goal.returns-clause-bytes
unfolding number_bytes digits
returns-clause-bytes c = refl
