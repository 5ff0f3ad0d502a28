use Rattle.std.proofs.Common.{◌≡◌, ◌%◌, ◌^◌, ◌<◌, ℕ, length, take, slice_index}
use Rattle.std.specs.Prelude.{sum_by}
use Rattle.uses.proofs.histogram.added.Given as goal

-- the counts of the parts so far
abbrev pub invariant-loop-part : goal.invariant-loop-part
invariant-loop-part l = record {
  all : length l.total ≡ 256;
  sums : (b : ℕ) → b < 256 → slice_index l.total b
      ≡ sum_by (λ part. slice_index part b) (take l.part-index l.parts) % 2 ^ 64;
}
