-- Chains: operations one after the other, which share one operand.
use Rattle.std.specs.Prelude.{◌≡◌, ℤ, List, [], ◌∷◌}
use Rattle.tensor_loops.specs.Loops.{either_way}
use Rattle.tensor_loops.specs.declared.loops.chain.Link.{Link}
use Rattle.tensor_views.specs.declared.view.Reading.{Reading}

-- the value of a chain: each operation is on the value so far and the value of the shared operand
abbrev pub chained : List Link → ℤ → ℤ → ℤ
chained [] x y = x
chained (l ∷ rest) x y = chained rest (either_way l.operation l.swapped x y) y

-- two readings are of equal lists, along equal views
pub record AreSame (first second : Reading) : Type 0 where
  pub start : first.view.start ≡ second.view.start
  pub axes : first.view.axes.now ≡ second.view.axes.now
  pub list : first.list.now ≡ second.list.now
