-- The prefix that was written stands behind what the client held, and is noted.
use Rattle.std.proofs.Common.{◌≡◌, ◌≤◌, ◌<◌, ◌-◌, length, take, option_map}
use Rattle.std.specs.Io.KnownBytes.{Appends}
use Rattle.message_server.specs.History.{writing, AddsAtMost}
use Rattle.message_server.proofs.writing.write_answer.Given as goal

abbrev pub invariant-loop-written : goal.invariant-loop-written
invariant-loop-written g l =
    (l.written ≤ length l.bytes)
    × (Appends (g.C.Client.contents l.fn.client) (g.C.Client.contents l.client) (take l.written l.bytes))
    × (g.C.Client.write_failures l.client ≡ g.C.Client.write_failures l.fn.client)
    × (g.C.Client.history l.client ≡ option_map (writing (take l.written l.bytes)) (g.C.Client.history l.fn.client))
    × (g.C.Client.remaining l.client ≡ g.C.Client.remaining l.fn.client)
    × (g.C.Client.read_failures l.client ≡ g.C.Client.read_failures l.fn.client)
    × (l.written < length l.bytes → AddsAtMost 0 (g.C.Client.writes l.fn.client) (g.C.Client.writes l.client))
    × AddsAtMost 1 (g.C.Client.writes l.fn.client) (g.C.Client.writes l.client)

abbrev pub decreases-loop-written : goal.decreases-loop-written
decreases-loop-written g l = length l.bytes - l.written
