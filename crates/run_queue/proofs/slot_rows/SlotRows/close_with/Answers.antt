-- The last seat has every account, so what is left is what it lacks.
use Rattle.std.proofs.Common.{rules, ◌≡◌, ◌∙◌, refl, ap, arith, length}
use Rattle.std.specs.List.{flat_map}
use Rattle.run_queue.specs.Bag.{total}
use Rattle.run_queue.specs.Views.{nothing}
use Rattle.run_queue.specs.SlotSeats.{takes_of}
use Rattle.run_queue.proofs.Totals.{total_append}
use Rattle.run_queue.proofs.SeatKeeps.{enter_keeps}
use Rattle.run_queue.proofs.Closing.{settles}
use Rattle.run_queue.proofs.slot_rows.SlotRows.close_with.Goals as goal

pub load_new_seat-last-requires : goal.load_new_seat-last-requires
load_new_seat-last-requires g c =
    (search rules, λ s r wide _. (nothing, enter_keeps s r, refl))

pub returns : goal.returns
returns g c = record {
  few =
      (let none = ap length c.into_list-left.ensures.none in
      let counts = c.close_with.ensures.counts in
      let few = c.drain.ensures.few in
      omega (arith, none, counts.1, few));
  account = λ h.
      let every = c.gather.ensures.parts ∙ c.requires.all in
      let a =
      settles _ _ _ _ every c.gather.ensures.none_busy c.close_with.ensures.values.2 h in
      let b = c.drain.ensures.jobs h in
      let d = c.gather.ensures.puts h in
      let e = c.gather.ensures.takes h in
      let f : total h c.into_list-left.result.items ≡ 0 = ap (total h) c.into_list-left.ensures.none in
      let takes = flat_map (takes_of {J = g.row.J.Denot}) c.args.seats.now.items in
      let k = total_append h takes c.drain.new.left.items in
      omega arith;
}
