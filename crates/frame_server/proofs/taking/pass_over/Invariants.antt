-- All but what is left was skipped.
use Rattle.std.proofs.Common.{◌≡◌, ◌≤◌, ◌-◌}
use Rattle.message_server.specs.Pieces.{pending_bytes}
use Rattle.frame_server.specs.private.Taking.{TakesCount}
use Rattle.frame_server.proofs.taking.pass_over.Given as goal

abbrev pub invariant-loop-left : goal.invariant-loop-left
invariant-loop-left g l =
    TakesCount (l.fn.count - l.left) (g.C.Client.remaining l.fn.client) (g.C.Client.remaining l.client) (g.C.Client.history l.fn.client) (g.C.Client.history l.client)
    (pending_bytes l.fn.buffer) (pending_bytes l.buffer)
    × (l.left ≤ l.fn.count)
    × (g.C.Client.contents l.client ≡ g.C.Client.contents l.fn.client)
    × (g.C.Client.read_failures l.client ≡ g.C.Client.read_failures l.fn.client)
    × (g.C.Client.write_failures l.client ≡ g.C.Client.write_failures l.fn.client)

abbrev pub decreases-loop-left : goal.decreases-loop-left
decreases-loop-left g l = l.left
