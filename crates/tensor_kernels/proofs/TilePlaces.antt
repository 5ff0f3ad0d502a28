-- Places of a band of columns, and those of its tiles: place p is of row p % rows and column
-- p / rows, and that row is of panel p % rows / h.
use Rattle.std.proofs.Common.{◌≡◌, ℕ, ◌+◌, ◌*◌, ◌-◌, ◌/◌, ◌%◌, ◌<◌, ◌≤◌, min}
use Rattle.std.proofs.Common.{ap, sym, ◌∙◌, arith, inl, inr}
use Rattle.std.proofs.Math.Nat.{div-add-mod, div-mul-le_self, mul-le-mul_right}
use Rattle.std.specs.Int.{div_ceil}
use Rattle.std.proofs.lemmas.Bool.{cases_lt}
use Rattle.std.proofs.lemmas.Grind.{div_ceil_times}
use Rattle.std.proofs.lemmas.Nat.{div-mul-add, mod-mul-add, le-div, div_below, mod_below}

-- a later place is in no earlier column
pub column-order : (rows k l : ℕ) → 0 < rows → k ≤ l → k / rows ≤ l / rows
column-order rows k l some order =
    le-div (k / rows) l rows some (omega (arith, div-mul-le_self k rows))

-- so no later place is in a column before that of an earlier one
pub no-earlier-column : (rows from k : ℕ) → 0 < rows → (from + k) / rows < from / rows → ⊥
no-earlier-column rows from k some earlier =
    absurd (omega (arith, column-order rows from (from + k) some (omega arith), earlier))

-- a part whose start lies within a length is one of the parts that cover the length
pub part-below : (size len n : ℕ) → 0 < size → n * size < len → n < div_ceil len size
part-below size len n some start =
    elim (cases_lt n (div_ceil len size)) [
      | inl below ↦ below
      | inr more ↦
          absurd (omega (arith, (div_ceil_times len size some).0, mul-le-mul_right size more))
    ]

-- what lies within a length is in one of the parts that cover it
pub part-of : (size len k : ℕ) → 0 < size → k < len → k / size < div_ceil len size
part-of size len k some below =
    div_below k size (div_ceil len size) some (omega (arith, (div_ceil_times len size some).0))

-- a place before the end of len places is in a column before the last of them
pub column-of : (rows from len last k : ℕ) → last ≡ div_ceil (from + len) rows → 0 < rows → k < len
    → (from + k) / rows < last
column-of rows from len last k is some below =
    rw is (part-of rows (from + len) (from + k) some (omega (arith, below)))

-- columns up to a place before the end of len places are no more
pub columns-inside : (rows columns column len n : ℕ) → n ≡ div_ceil len rows → 0 < rows
    → column * rows + len ≤ columns * rows → column + n ≤ columns
columns-inside rows columns column len n is some within =
    let fewer : n * rows < len + rows = rw is (div_ceil_times len rows some).1 in
    elim (cases_lt (column + n) (columns + 1)) [
      | inl fits ↦ omega arith
      | inr more ↦ absurd (omega (arith, within, fewer, mul-le-mul_right rows more))
    ]

-- where a tile's rows end in their column: after its panel, or with the column
abbrev pub tile_end : ℕ → ℕ → ℕ → ℕ → ℕ
tile_end h rows s j = j * rows + s * h + min h (rows - s * h)

-- the places of the rows of panel s in column j are those of a run
pub tile-place : (h rows s j p : ℕ) → 0 < h → 0 < rows → p / rows ≡ j → p % rows / h ≡ s
    → (j * rows + s * h ≤ p) × (p < tile_end h rows s j)
tile-place h rows s j p high some column panel =
    let row : p % rows < rows = mod_below p rows some in
    let rest : p % rows % h < h = mod_below (p % rows) h high in
    let whole = div-add-mod p rows in
    let part = div-add-mod (p % rows) h in
    rw (sym column, sym panel) (omega (arith, whole, part), omega (arith, whole, part))

-- and those of the run are theirs
pub record IsInTile (h rows s j p : ℕ) : Type 0 where
  pub column : p / rows ≡ j
  pub row : p % rows ≡ s * h + (p - (j * rows + s * h))
  pub panel : p % rows / h ≡ s

pub is_in_tile : (h rows s j p : ℕ) → s * h < rows → j * rows + s * h ≤ p
    → p < tile_end h rows s j → IsInTile h rows s j p
is_in_tile h rows s j p inside from to =
    let t = p - (j * rows + s * h) in
    let below : s * h + t < rows = omega arith in
    let is : p ≡ j * rows + (s * h + t) = omega arith in
    let row : p % rows ≡ s * h + t =
    ap (λ k. k % rows) is ∙ mod-mul-add j rows (s * h + t) below in
    record {
      column = ap (λ k. k / rows) is ∙ div-mul-add j rows (s * h + t) below;
      row = row;
      panel = ap (λ k. k / h) row ∙ div-mul-add s h t (omega arith);
    }
