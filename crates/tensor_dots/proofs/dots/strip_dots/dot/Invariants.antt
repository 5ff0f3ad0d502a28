-- The products before q.
use Rattle.std.proofs.Common.{◌≡◌, ◌*ℤ◌}
use Rattle.tensor_shape.specs.Wrap.{wrap}
use Rattle.tensor_values.specs.Values.{value_in}
use Rattle.tensor_dots.specs.Products.{sum_to}
use Rattle.tensor_dots.proofs.dots.strip_dots.dot.Given as goal

abbrev pub invariant-loop-q : goal.invariant-loop-q
invariant-loop-q l = l.sum ≡ wrap (sum_to (λ q. value_in l.a q *ℤ value_in l.b q) l.q)
