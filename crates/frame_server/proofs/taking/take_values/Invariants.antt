-- The first values were taken, and there is room for all.
use Rattle.std.proofs.Common.{◌≡◌, ◌≤◌, ◌-◌, length, vec_capacity}
use Rattle.message_server.specs.Pieces.{pending_bytes}
use Rattle.frame_server.specs.private.Taking.{TakesValues}
use Rattle.frame_server.proofs.taking.take_values.Given as goal

abbrev pub invariant-loop-buffer : goal.invariant-loop-buffer
invariant-loop-buffer g l =
    TakesValues (g.C.Client.remaining l.fn.client) (g.C.Client.remaining l.client) (g.C.Client.history l.fn.client) (g.C.Client.history l.client)
    (pending_bytes l.fn.buffer) (pending_bytes l.buffer) l.values.items
    × (length l.values.items ≤ l.count)
    × (l.count ≤ vec_capacity l.values)
    × (g.C.Client.contents l.client ≡ g.C.Client.contents l.fn.client)
    × (g.C.Client.read_failures l.client ≡ g.C.Client.read_failures l.fn.client)
    × (g.C.Client.write_failures l.client ≡ g.C.Client.write_failures l.fn.client)

abbrev pub decreases-loop-buffer : goal.decreases-loop-buffer
decreases-loop-buffer g l = l.count - length l.values.items
