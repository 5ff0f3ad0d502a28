-- One more slot is taken.
use Rattle.std.proofs.Common.{rules, get_or, get_or-set_other, true, false, ◌<◌, ◌≡◌, ◌+◌, ◌∙◌, ap}
use Rattle.std.proofs.Common.{sym, subst, arith, drop, option_to_list}
use Rattle.std.specs.Mem.Slots.{slots_items, slots_filled}
use Rattle.run_queue.specs.Bag.{total}
use Rattle.run_queue.specs.Elements.{weight}
use Rattle.run_queue.proofs.Totals.{total_append}
use Rattle.run_queue.proofs.Closing.{weight_drop, emptied}
use Rattle.run_queue.proofs.slot_rows.closing.drain.Goals as goal

pub loop-i-preserved : goal.loop-i-preserved
loop-i-preserved g c =
    let i = c.loop-i.i in
    let filled = slots_filled c.loop-i.closed.slots in
    let before = c.loop-i.invariant in
    let others = c.take.ensures.others in (
      (λ k low high. subst (λ fs. get_or fs k false ≡ true) (sym others.1)
          (get_or-set_other filled i k false false (λ e. omega arith)
          ∙ before.0 k (omega arith) (subst (λ n. k < n) others.2 high))),
      (λ k lt. subst (λ fs. get_or fs k false ≡ false) (sym others.1)
          (emptied filled i k (λ ne. before.1 k (omega arith)))),
      search rules,
      search rules,
      search rules,
      λ h.
          let xs = slots_items c.loop-i.closed.slots in
          let left = c.keep.new.left.items in
          let same : slots_items c.take.new.self.slots ≡ xs = others.0 in
          let a : total h left ≡ total h c.loop-i.left.items + weight h c.take.result =
          ap (total h) c.keep.ensures.items
          ∙ total_append h c.loop-i.left.items (option_to_list c.take.result) in
          let b = weight_drop h xs i c.take.result c.take.ensures.value in
          let d = before.5 h in
          subst
          (λ ys. total h left + total (weight h) (drop (i + 1) ys)
          ≡ total h c.args.left.now.items + total (weight h) ys) (sym same) (omega arith),
      search rules,
    )
