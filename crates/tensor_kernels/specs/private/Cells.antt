-- The cells of panels.
use Rattle.std.specs.Prelude.{◌≡◌, ℕ, ℤ, ◌*◌, ◌<◌, ◌≤◌, List, length, Bool, true, false}
use Rattle.std.specs.Prelude.{get_or}
use Rattle.std.specs.Coded.{×_prop, Π_prop, le_prop, Coded-set, coded_ℕ, coded_ℤ}
use Rattle.std.specs.Cow.{cow_slice_items}
use Rattle.std.specs.Int.{div_ceil}
use mir.ValLaws.{SFits-prop}
use Rattle.tensor_kernels.specs.Chunks.{chunk}
use Rattle.tensor_kernels.specs.private.Pairs.{ArePairSums}
use Rattle.tensor_kernels.specs.Panels.{AreCells}
use Rattle.tensor_dots.specs.Lanes.{AreSmall}
use Rattle.tensor_dots.specs.Rows.{row_count}
use Rattle.tensor_kernels.specs.declared.panels.Panels.{Panels}
use Rattle.tensor_kernels.specs.declared.panels.height.Height.{Height}
use Rattle.tensor_kernels.specs.declared.panels.height.Height.TheVariants.{Sixteen, Four}
use Rattle.tensor_dots.specs.declared.rows.Rows.{Rows}
use Rattle.tensor_kernels.specs.declared.tiling.Packing.{Packing}

-- the number of rows of a panel
abbrev pub height_of : Height → ℕ
height_of Sixteen = 16
height_of Four = 4

-- the given number of panels of h rows, with n values a row, can be multiplied: their numbers fit
-- 32 bits, or the sums of their rows' pairs are beside them
abbrev pub AreReady : Bool → ℕ → ℕ → ℕ → Panels → Type 0
AreReady true h panels n a = AreSmall a.cells.items
AreReady false h panels n a =
    (panels * h ≤ length a.sums.items) × ArePairSums h a.sums.items a.cells.items n

-- cells hold rows of values in whole panels: each row has a value for each of the offsets
abbrev pub HoldsRows : ℕ → List ℤ → List ℤ → List ℕ → List ℕ → Type 0
HoldsRows h cells values rows offsets =
    (length cells ≡ div_ceil (length rows) h * (length offsets * h))
    × AreCells h cells values rows offsets

-- panels hold chunk c of an operand
abbrev pub IsChunk : Packing → Rows → ℕ → Panels → Type 0
IsChunk packing rows c panels =
    HoldsRows (height_of packing.height) panels.cells.items (cow_slice_items rows.values)
    rows.starts.items (chunk rows.offsets.items c)
    × AreReady packing.small (height_of packing.height)
    (div_ceil (row_count rows) (height_of packing.height))
    (length (chunk rows.offsets.items c)) panels

-- each panels in a list hold the chunk of their number
abbrev pub AreChunks : Packing → Rows → List Panels → Type 0
AreChunks packing rows chunks = (c : ℕ) (panels : Panels) → c < length chunks
    → get_or chunks c panels ≡ panels → IsChunk packing rows c panels

-- AreChunks is a proposition, and so are its parts
AreReady-prop : (small : Bool) (h k n : ℕ) (panels : Panels) → IsProp (AreReady small h k n panels)
AreReady-prop true h k n panels = Π_prop λ k. Π_prop λ below. SFits-prop _ _
AreReady-prop false h k n panels =
    ×_prop le_prop (Π_prop λ x. Π_prop λ below. Coded-set coded_ℤ _ _)

HoldsRows-prop : (h : ℕ) (cells values : List ℤ) (rows offsets : List ℕ)
    → IsProp (HoldsRows h cells values rows offsets)
HoldsRows-prop h cells values rows offsets =
    ×_prop (Coded-set coded_ℕ (length cells) (div_ceil (length rows) h * (length offsets * h)))
    (Π_prop λ x. Π_prop λ q. Π_prop λ within. Π_prop λ few. Coded-set coded_ℤ _ _)

IsChunk-prop : (packing : Packing) (rows : Rows) (c : ℕ) (panels : Panels)
    → IsProp (IsChunk packing rows c panels)
IsChunk-prop packing rows c panels =
    let h = height_of packing.height in
    ×_prop
    (HoldsRows-prop h panels.cells.items (cow_slice_items rows.values) rows.starts.items
    (chunk rows.offsets.items c))
    (AreReady-prop packing.small h (div_ceil (row_count rows) h)
    (length (chunk rows.offsets.items c)) panels)

pub AreChunks-prop : (packing : Packing) (rows : Rows) (chunks : List Panels)
    → IsProp (AreChunks packing rows chunks)
AreChunks-prop packing rows chunks =
    Π_prop λ c. Π_prop λ panels. Π_prop λ below. Π_prop λ is. IsChunk-prop packing rows c panels
