-- The seat stays the same one of the rows.
use Rattle.std.proofs.Common.{◌≡◌}
use Rattle.pool_part_tests.proofs.rows.make_calls.Given as goal

abbrev pub invariant-loop-call : goal.invariant-loop-call
invariant-loop-call g l =
    (g.Q.Rows.rows_of l.owner ≡ g.Q.Rows.rows_of l.initial.owner) ×
    (g.Q.Rows.number_of l.owner ≡ g.Q.Rows.number_of l.initial.owner)
