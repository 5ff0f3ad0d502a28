use Rattle.std.proofs.Common.{◌≡◌, ◌≤◌, [], replicate, vec_len, vec_capacity}
use Rattle.parallel_for.specs.Table.{rows_of}
use Rattle.parallel_for.proofs.collector.blank.Given as goal

abbrev pub invariant-loop : goal.invariant-loop
invariant-loop g l = record {
  rows : rows_of l.table.items ≡ replicate l.counter [];
  len : vec_len l.table ≡ l.counter;
  room : l.count ≤ vec_capacity l.table;
}
