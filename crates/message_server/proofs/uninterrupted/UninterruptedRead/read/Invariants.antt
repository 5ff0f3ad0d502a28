-- An interrupted read consumed nothing.
use Rattle.std.proofs.Common.{◌-◌, ◌^◌, ◌≡◌, length}
use Rattle.std.specs.Io.KnownBytes.{Keeps}
use Rattle.message_server.proofs.uninterrupted.UninterruptedRead.read.Given as goal

abbrev pub invariant-loop-interrupted : goal.invariant-loop-interrupted
invariant-loop-interrupted g l =
    (length l.buf ≡ length l.initial.buf)
    × Keeps (g.R.Read.remaining l.fn.self.stream) (g.R.Read.remaining l.self.stream)

abbrev pub decreases-loop-interrupted : goal.decreases-loop-interrupted
decreases-loop-interrupted g l = (2 ^ 64 - 1) - l.interrupted
