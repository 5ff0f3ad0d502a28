-- The first cells are the first values' bytes.
use Rattle.std.proofs.Common.{◌≡◌, map, take}
use Rattle.frame_server.specs.Frame.{value_bytes}
use Rattle.frame_server.proofs.writing.OutputBuffer.fill.Given as goal

abbrev pub invariant-loop-k : goal.invariant-loop-k
invariant-loop-k l = take l.k l.self.cells ≡ map value_bytes (take l.k l.values)
