-- The numbers passed are values, and there is room for the rest.
use Rattle.std.proofs.Common.{◌≡◌, ℤ, length, map, take, vec_capacity}
use Rattle.serde_json.specs.View.{view}
use Rattle.tensor_runner.specs.Line.{integer}
use Rattle.tensor_runner.proofs.text.array_text.Given as goal

abbrev pub invariant-loop-number : goal.invariant-loop-number
invariant-loop-number g l =
    (length l.values.items ≡ l.number-index)
    × (vec_capacity l.values ≡ length l.numbers)
    × ((f : _ → ℤ) → ((x v : _) → g.N.Into.converts x v → view v ≡ integer (f x))
    → map view l.values.items ≡ map integer (map f (take l.number-index l.numbers)))
