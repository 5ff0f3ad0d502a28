-- The columns of the result that a range of its places has.
use Rattle.std.proofs.Common.{◌≡◌, ℕ, ◌+◌, ◌*◌, ◌-◌, ◌/◌, ◌%◌, ◌<◌, ◌≤◌, List, length, take, drop, ap}
use Rattle.std.proofs.Common.{sym, subst, arith, length-drop, length-take, div-add-mod'}
use Rattle.std.specs.Int.{div_ceil}
use Rattle.tensor_dots.specs.Rows.{row_count}
use Rattle.tensor_kernels.specs.Tiling.{tiled_count}
use Rattle.tensor_kernels.specs.declared.tiling.Tiled.{Tiled}
use Rattle.tensor_kernels.proofs.TilePlaces.{columns-inside}

-- how many rows of the second operand are packed: no more than there are left, nor than a band has
columns-left : (t : Tiled) (column len n : ℕ) → n ≡ div_ceil len t.rows → 0 < t.rows
    → column * t.rows + len ≤ tiled_count t → column + n ≤ row_count t.second
columns-left t column len n is some within =
    columns-inside t.rows (row_count t.second) column len n is some
    (subst (λ m. column * t.rows + len ≤ row_count t.second * m) (sym t.same) within)

pub length-columns : (t : Tiled) (starts : List ℕ) (a n : ℕ) → starts ≡ t.second.starts.items
    → a + n ≤ row_count t.second → length (take (a + n - a) (drop a starts)) ≡ n
length-columns t starts a n is left =
    omega (
      arith,
      left,
      ap length is,
      length-take (a + n - a) (drop a starts),
      length-drop a starts,
    )

pub columns-few : (m len n : ℕ) → n ≡ div_ceil len m → 0 < m → len ≤ 512 * m → n ≤ 512
columns-few m len n is some within =
    omega (arith, columns-inside m 512 0 len n is some (omega (arith, within)))

-- a place of the result is in a column that there is
pub place-columns : (t : Tiled) (place len n : ℕ) → 0 < t.rows
    → n ≡ div_ceil (place % t.rows + len) t.rows → place + len ≤ tiled_count t
    → place / t.rows + n ≤ row_count t.second
place-columns t place len n some is within =
    columns-left t (place / t.rows) (place % t.rows + len) n is some
    (omega (arith, within, div-add-mod' place t.rows))
