-- The bytes of the first values stand behind the front.
use Rattle.std.proofs.Common.{◌≡◌, ◌++◌, take}
use Rattle.std.specs.List.{flat_map}
use Rattle.frame_server.specs.Frame.{value_bytes}
use Rattle.frame_server.proofs.answer.joined.Given as goal

abbrev pub invariant-loop-k : goal.invariant-loop-k
invariant-loop-k l = l.bytes.items ≡ l.fn.front.items ++ flat_map value_bytes (take l.k l.values)
