-- The numbers of the pieces passed stand in the line, and where more are to come there are some.
use Rattle.std.proofs.Common.{◌≡◌, ◌<◌, ℤ, List, ◌++◌, length}
use Rattle.std.specs.Slice.Iter.{chunks_rest}
use Rattle.tensor_runner.specs.Answer.{numbers_text}
use Rattle.tensor_runner.proofs.text.push_data.Given as goal

abbrev pub invariant-loop-piece : goal.invariant-loop-piece
invariant-loop-piece l =
    goal.iterator-loop-piece.can_next l.piece-iterator
    × goal.iterator-loop-piece.is_finite l.piece-iterator
    × (done : List ℤ)
    × (l.line.items ≡ l.fn.line.items ++ numbers_text done)
    × (done ++ chunks_rest l.piece-iterator ≡ l.numbers)
    × (0 < length (chunks_rest l.piece-iterator) → 0 < length done)
