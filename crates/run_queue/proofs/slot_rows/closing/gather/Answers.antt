-- One more seat is taken in.
use Rattle.std.proofs.Common.{rules, ◌≡◌, ◌∙◌, ◌<◌, ◌++◌, ◌∷◌, [], sym, ap, subst}
use Rattle.std.proofs.Common.{arith, length}
use Rattle.std.specs.Prelude.{All}
use Rattle.std.specs.List.{flat_map}
use Rattle.run_queue.specs.Bag.{total}
use Rattle.run_queue.specs.SlotSeats.{table_of, puts_of, takes_of}
use Rattle.run_queue.proofs.Totals.{total_append}
use Rattle.run_queue.proofs.Lists.{all_before, all_last, total_flat, snoc_long}
use Rattle.run_queue.proofs.SeatKeeps.{take_in_keeps}
use Rattle.run_queue.proofs.slot_rows.closing.gather.Goals as goal

pub join_seat-requires : goal.join_seat-requires
join_seat-requires g c =
    let seat = c.in-Some.seat in
    let before = c.loop-seat.invariant in
    let rest = c.pop.new.self.items in
    let ours : All (λ s. table_of s ≡ c.args.last.now.table_id) (rest ++ seat ∷ []) =
    subst (All (λ s. table_of s ≡ c.args.last.now.table_id)) c.in-Some.ensures.items before.ours in (
      search rules,
      all_last (λ s. table_of s ≡ c.args.last.now.table_id) rest seat ours
          ∙ c.requires.of,
      seat.held.none_held,
      search rules,
      take_in_keeps _ _ _ _ (subst (λ k. 0 < k) (sym seat.held.one_part) (omega arith))
          before.none_busy seat.held.none_busy before.none_owed seat.held.none_owed,
    )

pub loop-seat-preserved : goal.loop-seat-preserved
loop-seat-preserved g c =
    let seat = c.in-Some.seat in
    let now = c.join_seat.ensures.2 in
    let items = c.in-Some.ensures.items in
    let rest = c.pop.new.self.items in
    let before = c.loop-seat.invariant in
    let last = c.loop-seat.last.me.0 in
    record {
      of = search rules;
      ours = all_before (λ s. table_of s ≡ c.args.last.now.table_id) rest (seat ∷ [])
          (subst (All (λ s. table_of s ≡ c.args.last.now.table_id)) items before.ours);
      none_busy = ap (λ m. m.0.busy) now;
      none_owed = ap (λ m. m.0.owes) now;
      none_held = ap (λ m. m.1) now ∙ before.none_held;
      parts = (let a = ap (λ m. m.0.parts) now in
          let b = ap length items in
          let d = snoc_long rest seat in
          let e = before.parts in
          let f = seat.held.one_part in
          omega arith);
      puts = λ h.
          (let a = ap (λ m. total h m.0.puts) now in
          let b = total_append h last.puts (puts_of seat) in
          let d = ap (λ xs. total h (flat_map puts_of xs)) items in
          let e = total_flat h puts_of rest seat in
          let f = before.puts h in
          omega arith);
      takes = λ h.
          (let a = ap (λ m. total h m.0.takes) now in
          let b = total_append h last.takes (takes_of seat) in
          let d = ap (λ xs. total h (flat_map takes_of xs)) items in
          let e = total_flat h takes_of rest seat in
          let f = before.takes h in
          omega arith);
    }
