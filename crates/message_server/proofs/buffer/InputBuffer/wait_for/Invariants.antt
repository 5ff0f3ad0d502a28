-- Nothing was taken, and more is pending.
use Rattle.std.proofs.Common.{◌≡◌, ◌-◌, [], length}
use Rattle.message_server.specs.Pieces.{pending_bytes, Takes}
use Rattle.message_server.proofs.buffer.InputBuffer.wait_for.Given as goal

abbrev pub invariant-loop-self : goal.invariant-loop-self
invariant-loop-self g l =
    Takes (g.C.Client.remaining l.fn.client) (g.C.Client.remaining l.client) (g.C.Client.history l.fn.client) (g.C.Client.history l.client)
    (pending_bytes l.fn.self) (pending_bytes l.self) []
    × (g.C.Client.contents l.client ≡ g.C.Client.contents l.fn.client)
    × (g.C.Client.read_failures l.client ≡ g.C.Client.read_failures l.fn.client)
    × (g.C.Client.write_failures l.client ≡ g.C.Client.write_failures l.fn.client)

abbrev pub decreases-loop-self : goal.decreases-loop-self
decreases-loop-self g l = l.count - length (pending_bytes l.self)
