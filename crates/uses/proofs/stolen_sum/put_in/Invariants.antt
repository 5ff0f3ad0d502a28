use Rattle.std.proofs.Common.{◌≡◌, ◌+◌, ◌%◌, ◌^◌, take}
use Rattle.std.specs.Prelude.{sum}
use Rattle.run_queue.specs.SlotSeats.{table_of, number_in, puts_of, takes_of}
use Rattle.uses.proofs.stolen_sum.put_in.Given as goal

-- each number so far is in the row, or in the sum of the others
abbrev pub invariant-loop-number : goal.invariant-loop-number
invariant-loop-number l = record {
  of : table_of l.owner ≡ table_of l.fn.owner;
  number : number_in l.owner ≡ number_in l.fn.owner;
  takes : takes_of l.owner ≡ takes_of l.fn.owner;
  puts : (l.rest + sum (puts_of l.owner)) % 2 ^ 64
      ≡ (sum (puts_of l.fn.owner) + sum (take l.number-index l.numbers)) % 2 ^ 64;
}
