-- A band of columns whose products are taken two chunks at once, a group of such pairs at a time.
use Rattle.std.specs.Prelude.{◌≡◌, ◌≢◌, ℕ, ℤ, ◌+ℤ◌, ◌+◌, ◌*◌, ◌/◌, ◌%◌, ◌<◌, ◌≤◌, List, length, get_or}
use Rattle.std.specs.Int.{div_ceil}
use Rattle.tensor_shape.specs.Wrap.{wrap}
use Rattle.tensor_kernels.specs.Chunks.{before}
use Rattle.tensor_kernels.specs.Panels.{cell_of}
use Rattle.tensor_dots.specs.Rows.{row_count, row_value}
use Rattle.tensor_kernels.specs.private.Strassen.{AreSecondFactors, sum_at}
use Rattle.tensor_kernels.specs.Tiling.{gathered_total, group_pairs, group_total}
use Rattle.tensor_kernels.specs.declared.tiling.Tiled.{Tiled}
use Rattle.tensor_kernels.specs.declared.tiling.strassen.Band.{Band}
use Rattle.tensor_kernels.specs.declared.tiling.strassen.factors.Factors.{Factors}
use Rattle.tensor_kernels.specs.declared.tiling.strassen.products.Products.{Products}
use Rattle.tensor_kernels.specs.declared.tiling.strassen.quarters.Quarters.{Quarters}

-- cells hold the values of columns from the given one on, of the second operand, in chunk c
abbrev pub HasColumns : Tiled → ℕ → ℕ → List ℤ → ℕ → Type 0
HasColumns t column columns cells c = (y q : ℕ) → y < columns → q < 128
    → cell_of 1 cells 128 y q ≡ row_value t.second (column + y) (c * 128 + q)

-- f are the factors of these columns in a pair of chunks, cut into quarters
pub record IsOfColumns (t : Tiled) (column columns pair : ℕ) (f : Factors) : Type 0 where
  pub quarters : Quarters
  pub single : quarters.half.height ≡ 1
  pub half : quarters.half.panels ≡ div_ceil columns 2
  pub earlier : HasColumns t column columns quarters.earlier.items (2 * pair)
  pub later : HasColumns t column columns quarters.later.items (2 * pair + 1)
  pub factors : AreSecondFactors quarters f

-- each factors in a list are those of their pair, from the first pair on
abbrev pub AreOfColumns : Tiled → ℕ → ℕ → ℕ → List Factors → Type 0
AreOfColumns t column columns first factors = (i : ℕ) (f : Factors) → i < length factors
    → get_or factors i f ≡ f → IsOfColumns t column columns (first + i) f

-- the band's columns are packed for the chunks of the group, which are whole
pub record IsBand (t : Tiled) (band : Band) : Type 0 where
  pub group : band.group * 2 < t.pairs
  pub there : band.place / t.rows + band.columns ≤ row_count t.second
  pub few : band.columns ≤ 512
  pub half : band.half ≡ div_ceil band.columns 2
  pub count : length band.factors.now ≡ group_pairs t band.group
  pub factors : AreOfColumns t (band.place / t.rows) band.columns (band.group * 2) band.factors.now

-- the products of block b of the rows are added up over the first n pairs of the group: at each
-- place of these rows, counted from where the band's first column begins
abbrev pub AreGathered : Tiled → Band → ℕ → ℕ → Products → Type 0
AreGathered t band b n products = (l : ℕ) → l < band.columns * t.rows → l % t.rows / 32 ≡ b
    → wrap (before n (sum_at t.rows band.half products l))
    ≡ wrap (gathered_total t band.group n (band.place / t.rows * t.rows + l))

-- what a block does to place k of the band, which changes from old to new: the group's sum is added
-- if the place's row is in block b, or else the value stays
pub record IsAdded (t : Tiled) (band : Band) (b k : ℕ) (old new : ℤ) : Type 0 where
  pub within : (band.place + k) % t.rows / 32 ≡ b
      → new ≡ wrap (before band.group old +ℤ group_total t band.group (band.place + k))
  pub other : (band.place + k) % t.rows / 32 ≢ b → new ≡ old
