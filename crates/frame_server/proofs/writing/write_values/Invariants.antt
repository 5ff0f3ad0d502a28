-- The first values were written behind what the client held, and noted.
use Rattle.std.proofs.Common.{◌≡◌, ◌≤◌, ◌<◌, ◌+◌, ◌*◌, ◌-◌, min, length, take, option_map}
use Rattle.std.specs.List.{flat_map}
use Rattle.std.specs.Io.KnownBytes.{Appends}
use Rattle.message_server.specs.History.{writing, AddsAtMost}
use Rattle.frame_server.specs.Frame.{value_bytes}
use Rattle.frame_server.proofs.writing.write_values.Given as goal

abbrev pub invariant-loop-written : goal.invariant-loop-written
invariant-loop-written g l =
    (l.written ≤ length l.values)
    × Appends (g.C.Client.contents l.fn.client) (g.C.Client.contents l.client) (flat_map value_bytes (take l.written l.values))
    × (g.C.Client.history l.client ≡ option_map (writing (flat_map value_bytes (take l.written l.values))) (g.C.Client.history l.fn.client))
    × (g.C.Client.write_failures l.client ≡ g.C.Client.write_failures l.fn.client)
    × (g.C.Client.remaining l.client ≡ g.C.Client.remaining l.fn.client)
    × (g.C.Client.read_failures l.client ≡ g.C.Client.read_failures l.fn.client)
    × AddsAtMost l.writes (g.C.Client.writes l.fn.client) (g.C.Client.writes l.client)
    × (l.written ≡ min (8192 * l.writes) (length l.values))
    × (8192 * l.writes < length l.values + 8192)

abbrev pub decreases-loop-written : goal.decreases-loop-written
decreases-loop-written g l = length l.values - l.written
