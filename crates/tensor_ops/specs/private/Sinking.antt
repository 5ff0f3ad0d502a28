-- Lowered expressions whose views have gone down to what is read by places.
use Rattle.std.specs.Prelude.{◌≡◌, ℕ, ℤ, ◌<◌, List}
use Rattle.tensor_ops.specs.private.Meaning.{meaning, count_of, IsSound}
use Rattle.tensor_views.specs.View.{reached}
use Rattle.tensor_ops.specs.declared.lowered.Lowered.{Lowered}
use Rattle.tensor_views.specs.declared.axis.Axis.{Axis}

-- a lowered expression has the given number of places, and the values of a function at them
pub record Follows (lowered : Lowered) (places : ℕ) (at : ℕ → ℤ) : Type 0 where
  pub sound : IsSound lowered
  pub count : count_of lowered ≡ places
  pub means : (p : ℕ) → p < places → meaning lowered p ≡ at p

-- the value of a lowered expression at the place that a view reaches
abbrev pub meaning_along : Lowered → ℕ → List Axis → ℕ → ℤ
meaning_along lowered start axes p = meaning lowered (reached start axes p)
