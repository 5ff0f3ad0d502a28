-- The indices so far and those of what is left, which decide.
use Rattle.std.proofs.Common.{◌≡◌, ◌++◌, drop, length}
use Rattle.tensor_terms.specs.Padding.{is_inside, moved_back}
use Rattle.tensor_terms.proofs.index.interleaved_index.moved_back.Given as goal

abbrev pub invariant-loop-axis : goal.invariant-loop-axis
invariant-loop-axis l = record {
  read : l.read.items ++ moved_back (drop l.axis l.pairs) (drop l.axis l.index) ≡ moved_back l.pairs l.index;
  len : length l.read.items ≡ l.axis;
  inside : is_inside l.pairs l.sizes l.index ≡ is_inside (drop l.axis l.pairs) (drop l.axis l.sizes) (drop l.axis l.index);
}
