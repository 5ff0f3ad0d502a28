-- How a stream of bytes is split into frames, for the private clauses of the server.
use Rattle.std.specs.Prelude.{◌≡◌, []}
use Rattle.message_server.specs.Parting.{Parting}
use Rattle.frame_server.specs.Frame.{IsWhole, IsUnfinished}

-- a frame's sizes say where it ends, and a stream may end only after a whole frame
abbrev pub by_sizes : Parting
by_sizes = record {
  with_end = λ frame. frame;
  IsMessage = IsWhole;
  IsUnfinished = IsUnfinished;
  AreLast = λ rest last. (rest ≡ []) × (last ≡ []);
}
