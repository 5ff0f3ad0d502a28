-- The first chunks stand as values behind those that were there.
use Rattle.std.proofs.Common.{◌≡◌, ◌++◌, map, take, vec_capacity}
use Rattle.frame_server.specs.Frame.{value_of}
use Rattle.frame_server.proofs.reading.push_values.Given as goal

abbrev pub invariant-loop-chunk : goal.invariant-loop-chunk
invariant-loop-chunk l =
    (l.values.items ≡ l.fn.values.items ++ map value_of (take l.chunk-index l.chunks))
    × (vec_capacity l.values ≡ vec_capacity l.fn.values)
