use Rattle.std.proofs.Common.{rules, ◌≡◌, arith}
use Rattle.run_queue.specs.SlotSeats.{table_of, puts_of, takes_of}
use Rattle.waking_rows.specs.Seats.{puts_by, takes_by}
use Rattle.waking_rows.proofs.Lists.{All-front, All-last, All-snoc, length-snoc, total_flat, total_map}
use Rattle.waking_rows.proofs.waking_rows.ending.slot_seats.Goals as goal

pub loop-seat-preserved : goal.loop-seat-preserved
loop-seat-preserved g c =
    let before = c.loop-seat.invariant in
    let taken = c.in-Some.ensures.items in
    let added = c.push_reserved.ensures.items in
    record {
      many = (let a = length-snoc _ _ _ taken in let b = length-snoc _ _ _ added in
          let m = before.many in omega arith);
      room = search rules;
      ours = λ table all. (
        All-front (λ seat. table_of seat.slot ≡ table) _ _ _ taken (before.ours table all).0,
        All-snoc (λ slot. table_of slot ≡ table) _ _ _ added (before.ours table all).1
            (All-last (λ seat. table_of seat.slot ≡ table) _ _ _ taken (before.ours table all).0),
      );
      puts = λ h.
          (let a = total_flat (λ it. h it.job) puts_of _ _ _ added in
          let b = total_flat h puts_by _ _ _ taken in
          let d = total_map h (λ it. it.job) (puts_of c.in-Some.seat.slot) in
          let e = before.puts h in
          omega arith);
      takes = λ h.
          (let a = total_flat (λ it. h it.job) takes_of _ _ _ added in
          let b = total_flat h takes_by _ _ _ taken in
          let d = total_map h (λ it. it.job) (takes_of c.in-Some.seat.slot) in
          let e = before.takes h in
          omega arith);
    }

pub returns-clause-ours : goal.returns-clause-ours
returns-clause-ours g c = λ table all. (c.loop-seat.invariant.ours table all).1
