-- Where places stand in their blocks, and what lines through them are.
use Rattle.std.proofs.Common.{◌≡◌, ℕ, ℤ, zero, suc, ◌+◌, ◌*◌, ◌/◌, ◌%◌, ◌<◌, ◌≤◌, List, map}
use Rattle.std.proofs.Common.{ap, ◌∙◌, arith}
use Rattle.std.specs.List.{range_with_len}
use Rattle.std.proofs.lemmas.Nat.{div-add-mod', div-mul-add, mod-mul-add, mod_below, div_below, mul-add-lt, row_fits_turned}
use Rattle.tensor_scans.specs.Places.{line_through}
use Rattle.tensor_scans.specs.declared.lines.Lines.{Lines}

-- a place of a block of rows: place i of row j
pub record IsAt (s w block i j p : ℕ) : Type 0 where
  pub inside : i < s
  pub row : j < w
  pub place : p ≡ i + s * (j + w * block)

module _ (s w block i j p : ℕ) (at : IsAt s w block i j p) where
  -- what divisions tell of it
  pub offset_of : p % s ≡ i
  offset_of =
      let turned : p ≡ (j + w * block) * s + i = grind arith in
      ap (λ q. q % s) turned ∙ mod-mul-add (j + w * block) s i at.inside

  pub number_of : p / s % w ≡ j
  number_of =
      let turned : p ≡ (j + w * block) * s + i = grind arith in
      let rows : j + w * block ≡ block * w + j = grind arith in
      ap (λ q. q / s % w) turned ∙ ap (λ q. q % w) (div-mul-add (j + w * block) s i at.inside)
      ∙ ap (λ q. q % w) rows ∙ mod-mul-add block w j at.row

  pub block_of : p / (s * w) ≡ block
  block_of =
      let turned : p ≡ block * (s * w) + (j * s + i) = grind arith in
      let below : j * s + i < s * w = mul-add-lt j s i w at.row at.inside in
      ap (λ q. q / (s * w)) turned ∙ div-mul-add block (s * w) (j * s + i) below

-- a factor of a number above another is not 0
pub some_factor : (s w r : ℕ) → r < s * w → 0 < s
some_factor zero w r below = absurd (omega arith)
some_factor (suc s) w r below = omega arith

-- each place of a block is of a row
pub is_in : (s w block q : ℕ) → q < s * w → IsAt s w block (q % s) (q / s) (block * (s * w) + q)
is_in s w block q within =
    let some : 0 < s = some_factor s w q within in
    let turned : q < w * s = grind arith in
    let parts : q / s * s + q % s ≡ q = div-add-mod' q s in
    record {
      inside = mod_below q s some;
      row = div_below q s w some turned;
      place = grind arith;
    }

-- the line of a block that begins at a place of its first row
abbrev pub line_in : Lines → (ℕ → ℤ) → ℕ → ℕ → List ℤ
line_in lines f block i =
    map (λ k. f (i + lines.stride * (k + lines.length * block))) (range_with_len 0 lines.length)

-- it is that through each of its places
pub line_through-at : (lines : Lines) (w : ℕ) (f : ℕ → ℤ) (block i j p : ℕ)
    → IsAt lines.stride w block i j p → line_through lines w f p ≡ line_in lines f block i
line_through-at lines w f block i j p at =
    ap (λ n. line_in lines f (p / (lines.stride * w)) n) (offset_of lines.stride w block i j p at)
    ∙ ap (λ n. line_in lines f n i) (block_of lines.stride w block i j p at)

-- the end of a block is within all of them
pub block_fits : (s w n block : ℕ) → block < n → block * (s * w) + s * w ≤ s * w * n
block_fits s w n block below = row_fits_turned block (s * w) (s * w) n below (omega arith)
