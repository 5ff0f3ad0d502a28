-- A line of which some bytes were taken, and nothing is written meanwhile.
use Rattle.std.proofs.Common.{◌≡◌}
use Rattle.message_server.specs.Pieces.{pending_bytes}
use Rattle.tensor_runner.specs.private.Taking.{InLine}
use Rattle.tensor_runner.proofs.taking.next_line.Given as goal

abbrev pub invariant-loop-turn : goal.invariant-loop-turn
invariant-loop-turn g l =
    (goal.iterator-loop-turn g).can_next l.turn-iterator
    × (goal.iterator-loop-turn g).is_finite l.turn-iterator
    × InLine (g.C.Client.remaining l.fn.client) (g.C.Client.remaining l.client) (g.C.Client.history l.fn.client) (g.C.Client.history l.client)
    (pending_bytes l.fn.buffer) (pending_bytes l.buffer) l.kept
    × (g.C.Client.contents l.client ≡ g.C.Client.contents l.fn.client)
    × (g.C.Client.read_failures l.client ≡ g.C.Client.read_failures l.fn.client)
    × (g.C.Client.write_failures l.client ≡ g.C.Client.write_failures l.fn.client)
