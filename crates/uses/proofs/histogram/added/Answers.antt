use Rattle.std.proofs.Common.{arith}
use Rattle.std.proofs.lemmas.List.{get_or-replicate}
use Rattle.uses.proofs.histogram.added.Goals as goal

pub loop-part-init : goal.loop-part-init
loop-part-init c = record { all = omega arith; sums = λ b below. get_or-replicate 256 b 0 0 below }
