-- The slots from i on are full, and those before it were taken; what is kept and what is not yet
-- weigh what all weighed.
use Rattle.std.proofs.Common.{◌≡◌, ℕ, ◌+◌, ◌-◌, ◌<◌, ◌≤◌, false, get_or, drop}
use Rattle.std.specs.Mem.Slots.{slots_items, slots_filled, slots_len}
use Rattle.std.specs.Mem.Slots.Ownership.{Filled}
use Rattle.std.specs.Vec.{vec_len, vec_capacity}
use Rattle.run_queue.specs.Bag.{total}
use Rattle.run_queue.specs.Elements.{weight}
use Rattle.run_queue.proofs.slot_rows.closing.drain.Given as goal

abbrev pub invariant-loop-i : goal.invariant-loop-i
invariant-loop-i g l =
    Filled (slots_filled l.closed.slots) l.i (slots_len l.closed.slots)
    × ((k : ℕ) → k < l.i → get_or (slots_filled l.closed.slots) k false ≡ false)
    × (slots_items l.closed.slots ≡ slots_items l.initial.closed.slots)
    × (vec_len l.left + (slots_len l.closed.slots - l.i) ≤ vec_capacity l.left)
    × (l.i ≤ slots_len l.closed.slots)
    × ((h : g.row.J.Denot → ℕ)
    → total h l.left.items + total (weight h) (drop l.i (slots_items l.closed.slots))
    ≡ total h l.initial.left.items + total (weight h) (slots_items l.closed.slots))
    × (vec_len l.left + (slots_len l.closed.slots - l.i)
    ≤ vec_len l.initial.left + slots_len l.initial.closed.slots)

abbrev pub decreases-loop-i : goal.decreases-loop-i
decreases-loop-i g l = slots_len l.closed.slots - l.i
