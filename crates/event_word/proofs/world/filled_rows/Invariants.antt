use Rattle.std.proofs.Common.{◌≡◌, false, map, replicate}
use Rattle.event_word.proofs.world.filled_rows.Given as goal

abbrev pub invariant-loop : goal.invariant-loop
invariant-loop g l =
    map (λ row. row.items) l.list.items ≡ replicate l.counter (replicate l.rows false)
