-- As many running seats as were made, by number, in room for all.
use Rattle.std.proofs.Common.{◌≡◌, All, map, vec_capacity}
use Rattle.std.specs.List.{range_with_len}
use Rattle.event_word.specs.declared.phase.Phase.TheVariants.{Running}
use Rattle.event_count.proofs.locked_count.seats.Given as goal

abbrev pub invariant-loop-number : goal.invariant-loop-number
invariant-loop-number g l = record {
  numbers : map (λ seat. seat.number) l.seats.items ≡ range_with_len 0 l.number;
  running : All (λ seat. seat.phase ≡ Running) l.seats.items;
  room : vec_capacity l.seats ≡ l.count;
}
