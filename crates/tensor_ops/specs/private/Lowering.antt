-- What lowering an expression, and each part of it, must give.
use Rattle.std.specs.Prelude.{◌≡◌, ℕ, ℤ, ◌+◌, ◌<◌, ◌≤◌, List, true}
use Rattle.tensor_shape.specs.Index.{size_of, IsIndexOf, place, index_of}
use Rattle.tensor_shape.specs.Legal.{most_elements}
use Rattle.tensor_kernels.specs.Contracting.{contraction_value}
use Rattle.tensor_views.specs.Axes.{are_along, by_steps}
use Rattle.tensor_ops.specs.private.LineResults.{value_along}
use Rattle.tensor_ops.specs.private.Meaning.{meaning, count_of, IsSound}
use Rattle.tensor_kernels.specs.declared.contraction.Contraction.{Contraction}
use Rattle.tensor_ops.specs.declared.lowered.Lowered.{Lowered}
use Rattle.tensor_ops.specs.declared.operands.along.LineResults.{LineResults}
use Rattle.tensor_views.specs.declared.axis.Axis.{Axis}

-- count values, one a place, are the values of a function at all index lists of dims ds
pub record HasValues (count : ℕ) (at : ℕ → ℤ) (ds : List ℕ) (f : List ℕ → ℤ) : Type 0 where
  pub whole : count ≡ size_of ds
  pub each : (p : ℕ) → p < size_of ds → at p ≡ f (index_of ds p)

-- the values of a lowered expression, in order, are the values of a function at all index lists of
-- dims ds
pub record Gives (lowered : Lowered) (ds : List ℕ) (f : List ℕ → ℤ) : Type 0 where
  pub sound : IsSound lowered
  pub count : count_of lowered ≡ size_of ds
  pub means : (p : ℕ) → p < size_of ds → meaning lowered p ≡ f (index_of ds p)

-- a lowered expression has as many places as another one, and the values of a function
pub record IsOperationOn (lowered other : Lowered) (f : ℕ → ℤ) : Type 0 where
  pub sound : IsSound lowered
  pub count : count_of lowered ≡ count_of other
  pub means : (p : ℕ) → meaning lowered p ≡ f p

-- the value of a lowered expression with dims ds at an index list
abbrev pub meaning_at : Lowered → List ℕ → List ℕ → ℤ
meaning_at lowered ds index = meaning lowered (place ds index)

-- the value of a contraction with result dims ds at an index list
abbrev pub contraction_at : Contraction → List ℕ → List ℕ → ℤ
contraction_at c ds index = contraction_value c (place ds index)

-- the value of lines with result dims ds at an index list
abbrev pub along_at : LineResults → List ℕ → List ℕ → ℤ
along_at a ds index = value_along a (place ds index)

-- a lowered expression with dims ds is read along axes from a start in another one
pub record IsView (inner : Lowered) (start : ℕ) (axes : List Axis)
    (outer : Lowered) (ds : List ℕ) : Type 0 where
  pub sound : IsSound inner
  pub few : count_of inner ≤ most_elements
  pub along : are_along axes ds ≡ true
  pub inside : (index : List ℕ) → IsIndexOf ds index → start + by_steps axes index < count_of inner
  pub means : (index : List ℕ) → IsIndexOf ds index
      → meaning inner (start + by_steps axes index) ≡ meaning_at outer ds index
