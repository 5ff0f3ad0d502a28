-- How a stream of bytes is split into lines, for the private clauses of the server.
use Rattle.std.specs.Prelude.{◌≡◌, [], ◌∷◌, ◌++◌}
use Rattle.message_server.specs.Parting.{Parting}
use Rattle.tensor_runner.specs.Lines.{lines_of}
use Rattle.tensor_runner.specs.private.Taking.{HasNoFeed}

-- a line feed ends a line; the last one may lack it
abbrev pub by_feeds : Parting
by_feeds = record {
  with_end = λ line. line ++ 10 ∷ [];
  IsMessage = HasNoFeed;
  IsUnfinished = HasNoFeed;
  AreLast = λ rest last. HasNoFeed rest × (last ≡ lines_of rest);
}
