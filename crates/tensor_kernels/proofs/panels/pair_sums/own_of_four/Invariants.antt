-- The sums of the first k products by halves.
use Rattle.std.proofs.Common.{◌≡◌, ℕ, ◌+◌, ◌<◌, map, to_z}
use Rattle.std.specs.Int.{w64}
use Rattle.tensor_shape.specs.Wrap.{wrap}
use Rattle.tensor_dots.specs.Halves.{AreWords, joined}
use Rattle.tensor_kernels.specs.private.Pairs.{own_pairs, lane}
use Rattle.tensor_dots.specs.Lanes.{AreLanes}
use Rattle.tensor_kernels.proofs.panels.pair_sums.own_of_four.Given as goal

abbrev pub invariant-loop-k : goal.invariant-loop-k
invariant-loop-k l = record {
  lanes : AreLanes (map (to_z w64) l.low);
  words : AreWords l.words;
  rows : (r : ℕ) → r < 4 → joined (map (to_z w64) l.low) l.words r
      ≡ wrap (own_pairs (lane l.height l.cells (l.start + r)) l.k);
}
