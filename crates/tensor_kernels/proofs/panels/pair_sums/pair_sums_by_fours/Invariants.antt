-- The sums of the rows before the fours to come, and room for all.
use Rattle.std.proofs.Common.{◌≡◌, ◌≤◌, ◌*◌, vec_len, vec_capacity}
use Rattle.tensor_kernels.specs.private.Pairs.{ArePairSums}
use Rattle.tensor_kernels.proofs.panels.pair_sums.pair_sums_by_fours.Given as goal

abbrev pub invariant-loop-four : goal.invariant-loop-four
invariant-loop-four l = record {
  sums : ArePairSums l.height l.sums.items l.cells l.n;
  len : vec_len l.sums ≡ 4 * l.four;
  capacity : l.panels * l.height ≤ vec_capacity l.sums;
}
