-- The starts of the rows before j.
use Rattle.std.proofs.Common.{◌≡◌, ℕ, ◌+◌, ◌<◌, slice_index}
use Rattle.tensor_dots.proofs.rows.starts.side_by_side.Given as goal

abbrev pub invariant-loop-j : goal.invariant-loop-j
invariant-loop-j l =
    (j : ℕ) → j < l.j → slice_index l.starts (l.k + j) ≡ slice_index l.starts l.k + j
