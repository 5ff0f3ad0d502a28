-- A chunk of the products of a band of columns.
use Rattle.std.specs.Prelude.{◌≡◌, ◌≢◌, ℕ, ℤ, ◌+ℤ◌, ◌*◌, ◌/◌, ◌%◌, ◌≤◌, length}
use Rattle.std.specs.Int.{div_ceil}
use Rattle.tensor_shape.specs.Legal.{most_elements}
use Rattle.tensor_shape.specs.Wrap.{wrap}
use Rattle.tensor_kernels.specs.private.Cells.{height_of, AreReady}
use Rattle.tensor_kernels.specs.Chunks.{before}
use Rattle.tensor_kernels.specs.Panels.{cell_of}
use Rattle.tensor_dots.specs.Products.{dot}
use Rattle.tensor_kernels.specs.declared.tiling.packed_chunk.PackedChunk.{PackedChunk}

-- the sum of the chunk's products for row x and column y
abbrev pub tile_sum : PackedChunk → ℕ → ℕ → ℤ
tile_sum chunk x y =
    dot (cell_of (height_of chunk.height) chunk.first.now.cells.items chunk.products x)
    (cell_of 1 chunk.second.now.cells.items chunk.products y) chunk.products

-- the sum of the chunk's products for the row and the column of place p of the band
abbrev pub chunk_sum : PackedChunk → ℕ → ℤ
chunk_sum chunk p = tile_sum chunk (p % chunk.rows) (p / chunk.rows)

-- the panel of the row of place p of the band
abbrev pub panel_at : PackedChunk → ℕ → ℕ
panel_at chunk p = p % chunk.rows / height_of chunk.height

-- there are panels for all rows and all columns, and they can be multiplied
pub record IsPacked (chunk : PackedChunk) : Type 0 where
  pub few_rows : chunk.rows ≤ most_elements
  pub few_columns : chunk.columns ≤ 512
  pub short : chunk.products ≤ 128
  pub first : div_ceil chunk.rows (height_of chunk.height)
      * (chunk.products * height_of chunk.height) ≤ length chunk.first.now.cells.items
  pub second : chunk.columns * chunk.products ≤ length chunk.second.now.cells.items
  pub ready : AreReady chunk.small (height_of chunk.height)
      (div_ceil chunk.rows (height_of chunk.height)) chunk.products chunk.first.now
  pub other : AreReady chunk.small 1 chunk.columns chunk.products chunk.second.now

-- the value at place p of the band after the chunk's sum was added to old, or put there
abbrev pub put_value : PackedChunk → ℕ → ℤ → ℤ
put_value chunk p old = wrap (before chunk.number old +ℤ chunk_sum chunk p)

-- what a tile does to place p of the band, which changes from old to new: the sum is added if the
-- place is in panel s and column j, or else the value stays
pub record IsPutInTile (chunk : PackedChunk) (s j p : ℕ) (old new : ℤ) : Type 0 where
  pub within : panel_at chunk p ≡ s → p / chunk.rows ≡ j → new ≡ put_value chunk p old
  pub other : panel_at chunk p ≢ s → new ≡ old
  pub elsewhere : p / chunk.rows ≢ j → new ≡ old

-- what a panel does to place p of the band: the sum is added if the place is in panel s, in any
-- column
pub record IsPutInPanel (chunk : PackedChunk) (s p : ℕ) (old new : ℤ) : Type 0 where
  pub within : panel_at chunk p ≡ s → new ≡ put_value chunk p old
  pub other : panel_at chunk p ≢ s → new ≡ old
