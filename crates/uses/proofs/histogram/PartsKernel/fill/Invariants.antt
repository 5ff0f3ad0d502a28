use Rattle.std.proofs.Common.{◌≡◌, ◌-◌, ◌≤◌, map, vec_len, vec_capacity}
use Rattle.std.specs.List.{range_with_len}
use Rattle.uses.specs.Counts.{counts_of, part_of}
use Rattle.uses.proofs.histogram.PartsKernel.fill.Given as goal

-- the counts of the parts so far
abbrev pub invariant-loop-i : goal.invariant-loop-i
invariant-loop-i g l = record {
  items : l.filled.items ≡ map
      (λ i. counts_of (part_of l.self.text.now l.self.part_length i))
      (range_with_len l.first (l.i - l.first));
  len : vec_len l.filled ≡ l.i - l.first;
  room : l.last - l.first ≤ vec_capacity l.filled;
}
