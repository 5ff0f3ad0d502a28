use Rattle.std.proofs.Common.{◌≡◌, ◌%◌, ◌^◌}
use Rattle.std.specs.Prelude.{sum}
use Rattle.run_queue.specs.SlotSeats.{table_of, puts_of, takes_of}
use Rattle.uses.proofs.stolen_sum.take_all.Given as goal

-- what came out so far is added up
abbrev pub invariant-loop : goal.invariant-loop
invariant-loop g l = record {
  can : (goal.iterator-loop g).can_next l.iterator';
  finite : (goal.iterator-loop g).is_finite l.iterator';
  of : table_of l.seat ≡ table_of l.fn.seat;
  puts : puts_of l.seat ≡ puts_of l.fn.seat;
  total : l.total ≡ sum (takes_of l.seat) % 2 ^ 64;
}
