-- Each turn took some bytes, and of all that was taken this is kept.
use Rattle.std.proofs.Common.{◌≡◌, ◌≤◌, ◌<◌, ◌+◌}
use Rattle.tensor_runner.specs.private.Kept.{kept_len}
use Rattle.tensor_runner.specs.private.Pieces.{HasTaken}
use Rattle.tensor_runner.specs.Run.{most_reads}
use Rattle.tensor_runner.proofs.reading.read_text.Given as goal

abbrev pub invariant-loop : goal.invariant-loop
invariant-loop g l =
    (l.counter ≤ kept_len l.kept)
    × (kept_len l.kept < most_reads)
    × (g.R.Source.calls l.reader ≤ g.R.Source.calls l.fn.reader + l.counter)
    × (g.R.Source.failures l.reader ≡ g.R.Source.failures l.fn.reader)
    × (HasTaken (g.R.Source.remaining l.fn.reader) (g.R.Source.remaining l.reader) l.kept)
