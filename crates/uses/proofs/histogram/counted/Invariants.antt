use Rattle.std.proofs.Common.{◌≡◌, ◌<◌, ℕ, length, take, slice_index}
use Rattle.uses.specs.Counts.{count_of}
use Rattle.uses.proofs.histogram.counted.Given as goal

-- the counts of the bytes so far
abbrev pub invariant-loop-byte : goal.invariant-loop-byte
invariant-loop-byte l = record {
  all : length l.counts ≡ 256;
  counts : (b : ℕ) → b < 256 → slice_index l.counts b ≡ count_of b (take l.byte-index l.text);
}
