-- One more seat.
use Rattle.std.proofs.Common.{rules, ◌≡◌, ◌-◌, ◌∙◌, [], sym, ap, arith, subst, ◌<◌, ◌+◌, length}
use Rattle.std.proofs.lemmas.Grind.{common_steps}
use Rattle.std.proofs.lemmas.List.FromFn.{length-range_with_len}
use Rattle.run_queue.specs.Views.{fresh, after_deal}
use Rattle.run_queue.specs.SlotSeats.{table_of, number_in, puts_of, takes_of, front_of}
use Rattle.run_queue.proofs.Numbers.{range_with_len_more}
use Rattle.run_queue.proofs.Lists.{all_more, map_long}
use Rattle.run_queue.proofs.SeatKeeps.{deal_keeps}
use Rattle.run_queue.proofs.slot_rows.opening.deal.Goals as goal

pub split_seat-seat-requires : goal.split_seat-seat-requires
split_seat-seat-requires g c =
    let is = ap (λ m. m.0) c.loop-number.invariant.left in
    let many = ap (λ v. v.parts) is in (
      search rules,
      search rules,
      deal_keeps _ _ (subst (λ k. 0 < k) (sym many) (omega arith)) (is ∙ ap fresh (sym many)),
    )

pub push_reserved-requires : goal.push_reserved-requires
push_reserved-requires g c =
    let made = length-range_with_len 0 c.loop-number.number in
    let same = ap length c.loop-number.invariant.numbers in
    let a = map_long (number_in {J = g.row.J.Denot}) c.loop-number.seats.items in
    grind (arith, common_steps)

pub loop-number-preserved : goal.loop-number-preserved
loop-number-preserved g c =
    let before = c.loop-number.invariant in
    let items = c.push_reserved.ensures.items in
    let fresh_one = c.split_seat-seat.ensures.4 in
    let number = c.loop-number.number in
    let fewer : c.args.count - number - 1 ≡ c.args.count - (number + 1) = omega arith in
    record {
      of = search rules;
      left = c.split_seat-seat.ensures.2 ∙ ap (λ m. (after_deal m.0, m.1)) before.left
          ∙ ap (λ k. (fresh k, [])) fewer;
      numbers = (let more = range_with_len_more 0 number in
          grind (arith, common_steps));
      ours = all_more (λ s. table_of s ≡ c.args.keeper.table_id) _ _ _ items before.ours
          (c.split_seat-seat.ensures.3 ∙ before.of);
      accounts = all_more (λ s. (puts_of s ≡ []) × (takes_of s ≡ [])) _ _ _ items before.accounts
          (ap (λ m. m.0.puts) fresh_one, ap (λ m. m.0.takes) fresh_one);
      fronts = all_more (λ s. front_of s ≡ 0) _ _ _ items before.fronts
          (ap (λ m. m.0.notes.front) fresh_one);
      room = search rules;
    }
