-- The sums of the rows before x, and room for all.
use Rattle.std.proofs.Common.{◌≡◌, ◌*◌, vec_len, vec_capacity}
use Rattle.tensor_kernels.specs.private.Pairs.{ArePairSums}
use Rattle.tensor_kernels.proofs.panels.pair_sums.pair_sums.Given as goal

abbrev pub invariant-loop-x : goal.invariant-loop-x
invariant-loop-x l = record {
  sums : ArePairSums l.height l.sums.items l.cells l.n;
  len : vec_len l.sums ≡ l.x;
  capacity : vec_capacity l.sums ≡ l.panels * l.height;
}
