-- An interrupted write appended nothing.
use Rattle.std.proofs.Common.{◌-◌, ◌^◌}
use Rattle.std.specs.Io.KnownBytes.{Keeps}
use Rattle.message_server.proofs.uninterrupted.UninterruptedWrite.write.Given as goal

abbrev pub invariant-loop-interrupted : goal.invariant-loop-interrupted
invariant-loop-interrupted g l = Keeps (g.W.Write.contents l.fn.self.stream) (g.W.Write.contents l.self.stream)

abbrev pub decreases-loop-interrupted : goal.decreases-loop-interrupted
decreases-loop-interrupted g l = (2 ^ 64 - 1) - l.interrupted
