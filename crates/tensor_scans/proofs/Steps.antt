-- Where the places that follow others stand in their blocks.
use Rattle.std.proofs.Common.{◌≡◌, ℕ, ◌+◌, ◌-◌, ◌*◌, ◌/◌, ◌%◌, ◌<◌, ◌≤◌, subst, ap, arith}
use Rattle.std.proofs.Math.Nat.{le-mul_of_pos_right, mul-le-mul_left}
use Rattle.std.proofs.lemmas.Nat.{div-add-mod', mod_below, div_below}
use Rattle.tensor_values.proofs.Factors.{some_factor}
use Rattle.tensor_scans.proofs.LinePlaces.{block-lt}
use Rattle.tensor_scans.proofs.Rows.{IsAt, block_of}

-- where there is a place there is a block
pub block-within : (s w d n p : ℕ) → p < s * w * n → s * d ≤ s * d * n
block-within s w d n p below =
    omega (arith, le-mul_of_pos_right {m = n} (s * d) (some_factor (s * w) n p below))

module _ (s w block i j p : ℕ) (at : IsAt s w block i j p) where
  -- its block is one of those that there are
  pub block-below : (n : ℕ) → p < s * w * n → block < n
  block-below n below = subst (λ (b : ℕ). b < n) (block_of s w block i j p at) (block-lt s w n p below)

  -- further on in the rows of the block
  pub along_rows : (k : ℕ) → i + k < s * (w - j) → IsAt s w block ((i + k) % s) (j + (i + k) / s) (p + k)
  along_rows k below =
      let some : 0 < s = omega (arith, at.inside) in
      let parts : (i + k) / s * s + (i + k) % s ≡ i + k = div-add-mod' (i + k) s in
      let inside : (i + k) / s < w - j = div_below (i + k) s (w - j) some (omega (arith, below)) in
      record {
        inside = mod_below (i + k) s some;
        row = omega (arith, inside);
        place = omega (arith, parts, at.place);
      }

  -- where the next block begins
  pub next_block : (q : ℕ) → p + (s * (w - j) - i) ≡ q → IsAt s w (block + 1) 0 0 q
  next_block q is =
      let rows : s * (j + (w - j)) ≡ s * w = ap (λ (n : ℕ). s * n) (omega (arith, at.row)) in
      let more : s * 1 ≤ s * (w - j) = mul-le-mul_left s (omega (arith, at.row)) in
      record {
        inside = omega (arith, at.inside);
        row = omega (arith, at.row);
        place = omega (arith, rows, more, is, at.place, at.inside);
      }
