-- Tiles: neighbours of a list that a view reads at places far apart.
use Rattle.std.specs.Prelude.{◌≡◌, ℕ, ◌+◌, ◌*◌, ◌/◌, ◌%◌, ◌<◌, ◌≤◌, List}
use Rattle.tensor_views.specs.View.{reached}
use Rattle.tensor_views.specs.declared.axis.Axis.{Axis}

-- a place that lies `stride` further reads the next value of the list, in runs of `count` such
-- places
pub record HaveNeighbours (axes : List Axis) (stride count : ℕ) : Type 0 where
  pub far : 0 < stride
  pub many : 0 < count
  pub each : (start p k : ℕ) → p / stride % count + k < count
      → reached start axes (p + k * stride) ≡ reached start axes p + k

-- a row begins at the place, and at least seven more rows follow in its run
pub record HasTile (place stride count : ℕ) : Type 0 where
  pub row : place % stride ≡ 0
  pub run : place / stride % count + 8 ≤ count
