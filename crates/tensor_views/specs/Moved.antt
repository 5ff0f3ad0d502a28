-- The view of a movement over a view.
use Rattle.std.specs.Prelude.{◌≡◌, ℕ, ◌+◌, ◌<◌, List}
use Rattle.tensor_shape.specs.Index.{size_of, index_of}
use Rattle.tensor_terms.specs.Movement.{moved}
use Rattle.tensor_terms.specs.Term.{Movement}
use Rattle.tensor_views.specs.Axes.{by_steps}
use Rattle.tensor_views.specs.View.{view_size, reached}
use Rattle.tensor_views.specs.declared.axis.Axis.{Axis}

-- A view reads, place by place of the movement's result, what the movement reads of its operand:
-- `start` and `axes` are a view of the operand, with dims `ds`, and `rs` are the dims of the result.
pub record IsMovedView (m : Movement) (ds rs : List ℕ) (start : ℕ) (axes : List Axis)
    (from : ℕ) (along : List Axis) : Type 0 where
  pub size : view_size along ≡ size_of rs
  pub reaches : (p : ℕ) → p < size_of rs
      → reached from along p ≡ start + by_steps axes (moved m ds (index_of rs p))
