-- The lines along an axis of dims.
use Rattle.std.specs.Prelude.{◌≡◌, ℕ, ◌+◌, List, take, drop, slice_index}
use Rattle.tensor_scans.specs.declared.lines.Lines.{Lines}
use Rattle.tensor_shape.specs.Index.{size_of}

-- the lines along an axis: neighbours lie as far apart as the sizes before the axis multiply to, a
-- line is as long as the axis, and there is a block for each place of the axes after it
pub record AreLinesAlong (axis : ℕ) (ds : List ℕ) (lines : Lines) : Type 0 where
  pub stride : lines.stride ≡ size_of (take axis ds)
  pub length : lines.length ≡ slice_index ds axis
  pub blocks : lines.blocks ≡ size_of (drop (axis + 1) ds)
