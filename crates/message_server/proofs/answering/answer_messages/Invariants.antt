-- Each message before what is pending was answered and noted, by the rules of the beginning.
use Rattle.std.proofs.Common.{◌≡◌}
use Rattle.message_server.specs.Notes.{noting}
use Rattle.message_server.specs.Pieces.{pending_bytes}
use Rattle.message_server.specs.Server.{Serves}
use Rattle.message_server.proofs.answering.answer_messages.Given as goal

abbrev pub invariant-loop-turn : goal.invariant-loop-turn
invariant-loop-turn g l =
    (goal.iterator-loop-turn g).can_next l.turn-iterator
    × (goal.iterator-loop-turn g).is_finite l.turn-iterator
    × Serves (noting (g.P.Protocol.framing (g.P.Protocol.rules l.fn.protocol)) (g.P.Protocol.is_note (g.P.Protocol.rules l.fn.protocol))) g.P.Protocol.parting
    (g.C.Client.remaining l.fn.client) (g.C.Client.remaining l.client)
    (g.C.Client.contents l.fn.client) (g.C.Client.contents l.client) (g.C.Client.history l.client)
    (g.P.Protocol.notes l.fn.protocol) (g.P.Protocol.notes l.protocol) (pending_bytes l.buffer)
    × (g.C.Client.read_failures l.client ≡ g.C.Client.read_failures l.fn.client)
    × (g.C.Client.write_failures l.client ≡ g.C.Client.write_failures l.fn.client)
    × (g.P.Protocol.rules l.protocol ≡ g.P.Protocol.rules l.fn.protocol)
