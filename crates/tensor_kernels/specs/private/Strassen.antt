-- Two chunks of the products at once, by seven products of halves instead of eight (Strassen 1969).
-- Each operand has two halves of rows and two chunks of values, which are four quarters. The result
-- has two halves of rows and two halves of columns.
use Rattle.std.specs.Prelude.{◌≡◌, ◌≢◌, ℕ, zero, suc, ℤ, ◌+ℤ◌, ◌-ℤ◌, ◌+◌, ◌*◌, ◌/◌, ◌%◌, ◌<◌, ◌≤◌}
use Rattle.std.specs.Prelude.{List, length, false}
use Rattle.tensor_shape.specs.Legal.{most_elements}
use Rattle.tensor_shape.specs.Wrap.{wrap}
use Rattle.tensor_values.specs.Values.{value_in}
use Rattle.tensor_kernels.specs.private.Cells.{AreReady}
use Rattle.tensor_kernels.specs.Chunks.{before}
use Rattle.tensor_kernels.specs.Panels.{cell_of}
use Rattle.tensor_dots.specs.Products.{dot}
use Rattle.tensor_kernels.specs.private.Quartering.{half_size}
use Rattle.tensor_kernels.specs.declared.panels.Panels.{Panels}
use Rattle.tensor_kernels.specs.declared.tiling.strassen.block.Block.{Block}
use Rattle.tensor_kernels.specs.declared.tiling.strassen.factors.Factors.{Factors}
use Rattle.tensor_kernels.specs.declared.tiling.strassen.products.Products.{Products}
use Rattle.tensor_kernels.specs.declared.tiling.strassen.half.Half.{Half}
use Rattle.tensor_kernels.specs.declared.tiling.strassen.quarters.Quarter.{Quarter}
use Rattle.tensor_kernels.specs.declared.tiling.strassen.quarters.Quarter.TheVariants.{FirstEarlier}
use Rattle.tensor_kernels.specs.declared.tiling.strassen.quarters.Quarter.TheVariants.{FirstLater}
use Rattle.tensor_kernels.specs.declared.tiling.strassen.quarters.Quarter.TheVariants.{SecondEarlier}
use Rattle.tensor_kernels.specs.declared.tiling.strassen.quarters.Quarter.TheVariants.{SecondLater}
use Rattle.tensor_kernels.specs.declared.tiling.strassen.quarters.Quarters.{Quarters}

-- cell p of a quarter: the second half's cells lie behind the first half's
abbrev pub cell : Quarters → Quarter → ℕ → ℤ
cell q FirstEarlier p = value_in q.earlier.items p
cell q FirstLater p = value_in q.later.items p
cell q SecondEarlier p = value_in q.earlier.items (half_size q.half + p)
cell q SecondLater p = value_in q.later.items (half_size q.half + p)

-- the given number of panels, with 128 values a row, that can be multiplied
pub record IsPanels (height panels : ℕ) (a : Panels) : Type 0 where
  pub len : length a.cells.items ≡ panels * (128 * height)
  pub ready : AreReady false height panels 128 a

-- panels whose cells are the numbers f, modulo 2^64
pub record IsFactor (half : Half) (a : Panels) (f : ℕ → ℤ) : Type 0 where
  pub panels : IsPanels half.height half.panels a
  pub each : (p : ℕ) → p < half_size half → wrap (value_in a.cells.items p) ≡ wrap (f p)

-- cell p of the sum of two quarters
abbrev pub sum_of : Quarters → Quarter → Quarter → ℕ → ℤ
sum_of q x y p = cell q x p +ℤ cell q y p

-- cell p of the difference of two quarters
abbrev pub difference_of : Quarters → Quarter → Quarter → ℕ → ℤ
difference_of q x y p = cell q x p -ℤ cell q y p

-- the first operand's factor of each of the seven products
pub record AreFirstFactors (q : Quarters) (f : Factors) : Type 0 where
  pub m1 : IsFactor q.half f.m1 (sum_of q FirstEarlier SecondLater)
  pub m2 : IsFactor q.half f.m2 (sum_of q SecondEarlier SecondLater)
  pub m3 : IsFactor q.half f.m3 (cell q FirstEarlier)
  pub m4 : IsFactor q.half f.m4 (cell q SecondLater)
  pub m5 : IsFactor q.half f.m5 (sum_of q FirstEarlier FirstLater)
  pub m6 : IsFactor q.half f.m6 (difference_of q SecondEarlier FirstEarlier)
  pub m7 : IsFactor q.half f.m7 (difference_of q FirstLater SecondLater)

-- the second operand's factor of each of the seven products
pub record AreSecondFactors (q : Quarters) (f : Factors) : Type 0 where
  pub m1 : IsFactor q.half f.m1 (sum_of q FirstEarlier SecondLater)
  pub m2 : IsFactor q.half f.m2 (cell q FirstEarlier)
  pub m3 : IsFactor q.half f.m3 (difference_of q SecondEarlier SecondLater)
  pub m4 : IsFactor q.half f.m4 (difference_of q FirstLater FirstEarlier)
  pub m5 : IsFactor q.half f.m5 (cell q SecondLater)
  pub m6 : IsFactor q.half f.m6 (sum_of q FirstEarlier SecondEarlier)
  pub m7 : IsFactor q.half f.m7 (sum_of q FirstLater SecondLater)

-- the factors of an operand all are panels that can be multiplied
pub record ArePanels (height panels : ℕ) (f : Factors) : Type 0 where
  pub m1 : IsPanels height panels f.m1
  pub m2 : IsPanels height panels f.m2
  pub m3 : IsPanels height panels f.m3
  pub m4 : IsPanels height panels f.m4
  pub m5 : IsPanels height panels f.m5
  pub m6 : IsPanels height panels f.m6
  pub m7 : IsPanels height panels f.m7

-- the sum of products of row k % 16 and column k / 16
abbrev pub product_sum : Panels → Panels → ℕ → ℤ
product_sum a b k =
    dot (cell_of 16 a.cells.items 128 (k % 16)) (cell_of 1 b.cells.items 128 (k / 16)) 128

-- a product's values change from old to new: for each of sixteen rows and n columns, column by
-- column, the sum of products is added, or put there by pair 0
pub record IsProductAdded (pair : ℕ) (a b : Panels) (n : ℕ) (old new : List ℤ) : Type 0 where
  pub len : length new ≡ 16 * n
  pub each : (k : ℕ) → k < 16 * n
      → value_in new k ≡ wrap (before pair (value_in old k) +ℤ product_sum a b k)

-- all seven products are added
pub record AreAdded (pair : ℕ) (a b : Factors) (n : ℕ) (old new : Products) : Type 0 where
  pub m1 : IsProductAdded pair a.m1 b.m1 n old.m1.items new.m1.items
  pub m2 : IsProductAdded pair a.m2 b.m2 n old.m2.items new.m2.items
  pub m3 : IsProductAdded pair a.m3 b.m3 n old.m3.items new.m3.items
  pub m4 : IsProductAdded pair a.m4 b.m4 n old.m4.items new.m4.items
  pub m5 : IsProductAdded pair a.m5 b.m5 n old.m5.items new.m5.items
  pub m6 : IsProductAdded pair a.m6 b.m6 n old.m6.items new.m6.items
  pub m7 : IsProductAdded pair a.m7 b.m7 n old.m7.items new.m7.items

-- each of the seven products has n values
pub record AreLong (n : ℕ) (p : Products) : Type 0 where
  pub m1 : length p.m1.items ≡ n
  pub m2 : length p.m2.items ≡ n
  pub m3 : length p.m3.items ≡ n
  pub m4 : length p.m4.items ≡ n
  pub m5 : length p.m5.items ≡ n
  pub m6 : length p.m6.items ≡ n
  pub m7 : length p.m7.items ≡ n

-- how the products make up a value of one of the four quadrants of the result: the first or second
-- half of the rows, and the first or second half of the columns
abbrev pub quadrant_sum : ℕ → ℕ → (m1 m2 m3 m4 m5 m6 m7 : ℤ) → ℤ
quadrant_sum zero zero m1 m2 m3 m4 m5 m6 m7 = ((m1 +ℤ m4) +ℤ m7) -ℤ m5
quadrant_sum zero (suc s) m1 m2 m3 m4 m5 m6 m7 = m3 +ℤ m5
quadrant_sum (suc r) zero m1 m2 m3 m4 m5 m6 m7 = m2 +ℤ m4
quadrant_sum (suc r) (suc s) m1 m2 m3 m4 m5 m6 m7 = ((m1 +ℤ m3) +ℤ m6) -ℤ m2

-- value k of a quadrant
abbrev pub quadrant_value : Products → ℕ → ℕ → ℕ → ℤ
quadrant_value p r s k =
    quadrant_sum r s (value_in p.m1.items k) (value_in p.m2.items k) (value_in p.m3.items k)
    (value_in p.m4.items k) (value_in p.m5.items k) (value_in p.m6.items k) (value_in p.m7.items k)

-- what products make up at place p of a band, whose columns have the given number of rows, and
-- whose first half has the given number of columns
abbrev pub sum_at : ℕ → ℕ → Products → ℕ → ℤ
sum_at rows half products p =
    quadrant_value products (p % rows / 16 % 2) (p / rows / half)
    (16 * (p / rows % half) + p % rows % 16)

-- the sum of a block at place p of the band
abbrev pub block_sum : Block → ℕ → ℤ
block_sum block p = sum_at block.rows block.half block.products.now p

-- a block of rows that are there, with products for all columns
pub record IsBlock (block : Block) : Type 0 where
  pub few_rows : block.rows ≤ most_elements
  pub few_columns : block.columns ≤ 512
  pub start : block.block * 32 < block.rows
  pub half : block.columns ≤ 2 * block.half
  pub few : block.half ≤ 256
  pub long : AreLong (16 * block.half) block.products.now

-- the value at place p after the block's sum was added to old, or put there
abbrev pub block_value : Block → ℕ → ℤ → ℤ
block_value block p old = wrap (before block.number old +ℤ block_sum block p)

-- what panel r of a block in column j does to place p, which changes from old to new: the sum is
-- added if the place is in both, or else the value stays
pub record IsPutInPanel (block : Block) (r j p : ℕ) (old new : ℤ) : Type 0 where
  pub within : p % block.rows / 16 ≡ 2 * block.block + r → p / block.rows ≡ j
      → new ≡ block_value block p old
  pub other : p % block.rows / 16 ≢ 2 * block.block + r → new ≡ old
  pub elsewhere : p / block.rows ≢ j → new ≡ old

-- what both panels of a block in column j do to place p
pub record IsPutInColumn (block : Block) (j p : ℕ) (old new : ℤ) : Type 0 where
  pub within : p % block.rows / 32 ≡ block.block → p / block.rows ≡ j
      → new ≡ block_value block p old
  pub other : p % block.rows / 32 ≢ block.block → new ≡ old
  pub elsewhere : p / block.rows ≢ j → new ≡ old

-- what a block does to place p, in any column
pub record IsPutInBlock (block : Block) (p : ℕ) (old new : ℤ) : Type 0 where
  pub within : p % block.rows / 32 ≡ block.block → new ≡ block_value block p old
  pub other : p % block.rows / 32 ≢ block.block → new ≡ old
