use Rattle.std.proofs.Common.{◌≡◌, ap, arith}
use Rattle.std.specs.List.{flat_map}
use Rattle.std.proofs.lemmas.List.Elements.{All-weaker}
use Rattle.run_queue.specs.Bag.{total}
use Rattle.run_queue.specs.SlotSeats.{rows_id, takes_of}
use Rattle.waking_rows.specs.Seats.{home_of, place_of, takes_by}
use Rattle.waking_rows.proofs.Lists.{total_append, total_map}
use Rattle.waking_rows.proofs.waking_rows.WakingRows.close.Goals as goal

pub close-items-requires-clause-ours : goal.close-items-requires-clause-ours
close-items-requires-clause-ours g c =
    c.slot_seats-list.ensures.ours (rows_id c.args.self.slots)
    (All-weaker (λ seat. home_of seat ≡ place_of c.args.self) _ (λ seat is. ap (λ home. home.0) is) _
    c.requires.ours)

pub returns : goal.returns
returns g c = record {
  account = λ h.
      let a = c.slot_seats-list.ensures.puts h in
      let b = c.slot_seats-list.ensures.takes h in
      let d = c.close-items.ensures.account (λ it. h it.job) in
      let e = total_append (λ it. h it.job) (flat_map takes_of c.slot_seats-list.result.items)
      c.close-items.result.items in
      let f = total_map h (λ it. it.job) c.close-items.result.items in
      let k = ap (total h) c.jobs_of.ensures.jobs in
      let m = total_append h (flat_map takes_by c.args.seats.now.items) c.jobs_of.result.items in
      omega arith;
}
