use Rattle.std.proofs.Common.{◌≡◌, ◌+◌, ◌%◌, ◌^◌, ◌<◌, ◌≤◌, ℕ, length, slice_index}
use Rattle.uses.proofs.histogram.add.Given as goal

-- what is added so far, and what isn't yet
abbrev pub invariant-loop-byte : goal.invariant-loop-byte
invariant-loop-byte l = record {
  all : length l.total ≡ 256;
  sums : (b : ℕ) → b < l.byte
      → slice_index l.total b ≡ (slice_index l.initial.total b + slice_index l.counts b) % 2 ^ 64;
  rest : (b : ℕ) → l.byte ≤ b → slice_index l.total b ≡ slice_index l.initial.total b;
}
