-- Both seats stay seats of the rows, and the owner stays the one of its row.
use Rattle.std.proofs.Common.{◌≡◌}
use Rattle.pool_part_tests.proofs.rows.make_drawn.Given as goal

abbrev pub invariant-loop-place : goal.invariant-loop-place
invariant-loop-place g l = record {
  ours : g.Q.Rows.rows_of l.owner ≡ g.Q.Rows.rows_of l.initial.owner;
  number : g.Q.Rows.number_of l.owner ≡ g.Q.Rows.number_of l.initial.owner;
  too : g.Q.Rows.rows_of l.outsider ≡ g.Q.Rows.rows_of l.initial.outsider;
}
