-- Tiles: the rows of one panel in one column of a band. Place p of a band is in row p % rows and in
-- column p / rows.
use Rattle.std.specs.Prelude.{◌≡◌, ◌≢◌, ℕ, ℤ, ◌+ℤ◌, ◌+◌, ◌*◌, ◌-◌, ◌/◌, ◌%◌, List, min}
use Rattle.tensor_shape.specs.Wrap.{wrap}
use Rattle.tensor_values.specs.Values.{value_in}
use Rattle.tensor_kernels.specs.private.Cells.{height_of}
use Rattle.tensor_kernels.specs.Chunks.{before}
use Rattle.tensor_kernels.specs.declared.tiling.placing.Tile.{Tile}

-- the place at which a tile begins
abbrev pub start_of : Tile → ℕ
start_of tile = tile.column * tile.rows + tile.panel * height_of tile.height

-- the place at which a tile ends: after the panel, or with the column
abbrev pub end_of : Tile → ℕ
end_of tile =
    let height = height_of tile.height in
    start_of tile + min height (tile.rows - tile.panel * height)

-- place p is one of the tile's
abbrev pub IsAmong : Tile → ℕ → Type 0
IsAmong tile p =
    (p % tile.rows / height_of tile.height ≡ tile.panel) × (p / tile.rows ≡ tile.column)

-- what a tile does to place p, which changes from old to new: the sum of its row is added if the
-- place is one of the tile's, or else the value stays
pub record IsPut (tile : Tile) (c : ℕ) (sums : List ℤ) (p : ℕ) (old new : ℤ) : Type 0 where
  pub within : p % tile.rows / height_of tile.height ≡ tile.panel → p / tile.rows ≡ tile.column
      → new ≡ wrap (before c old
      +ℤ value_in sums (p % tile.rows - tile.panel * height_of tile.height))
  pub other : p % tile.rows / height_of tile.height ≢ tile.panel → new ≡ old
  pub elsewhere : p / tile.rows ≢ tile.column → new ≡ old
