-- Where the values of a row lie, one of each of some lines whose places lie side by side.
use Rattle.std.proofs.Common.{◌≡◌, ℕ, ◌+◌, ◌-◌, ◌*◌, ◌/◌, ◌%◌, ◌<◌, ◌≤◌}
use Rattle.std.proofs.Common.{refl, sym, subst, ap, ◌∙◌, arith, div-add-mod'}
use Rattle.tensor_scans.specs.Places.{line_place, line_values}
use Rattle.tensor_scans.specs.declared.lines.Lines.{Lines}
use Rattle.tensor_scans.proofs.LineReads.{is_read}
use Rattle.tensor_scans.proofs.Rows.{IsAt, offset_of, block_of}

module _ (lines : Lines) (place : ℕ) where
  -- the places of a row of results
  row-at : (k : ℕ) → place % lines.stride + k < lines.stride
      → IsAt lines.stride 1 (place / lines.stride) (place % lines.stride + k) 0 (place + k)
  row-at k inside =
      let whole : place / lines.stride * lines.stride + place % lines.stride ≡ place =
      div-add-mod' place lines.stride in
      record { inside = inside; row = omega arith; place = grind arith }

  -- where number n of the line of each of them lies
  pub row-place : (k n : ℕ) → place % lines.stride + k < lines.stride
      → line_place lines 1 (place + k) n ≡ line_place lines 1 place 0 + n * lines.stride + k
  row-place k n inside =
      let s = lines.stride in
      let d = lines.length in
      let b : ℕ = place / s in
      let offset : (place + k) % s ≡ place % s + k =
      offset_of s 1 b (place % s + k) 0 (place + k) (row-at k inside) in
      let block : (place + k) / (s * 1) ≡ b =
      block_of s 1 b (place % s + k) 0 (place + k) (row-at k inside) in
      let own : place / (s * 1) ≡ b = ap (λ m. place / m) (omega arith) in
      let there : line_place lines 1 (place + k) n ≡ place % s + k + s * (n + d * b) =
      ap (λ m. m + s * (n + d * ((place + k) / (s * 1)))) offset
      ∙ ap (λ m. place % s + k + s * (n + d * m)) block in
      let here : line_place lines 1 place 0 ≡ place % s + s * (0 + d * b) =
      ap (λ m. place % s + s * (0 + d * m)) own in
      there ∙ subst (λ m. place % s + k + s * (n + d * b) ≡ m + n * s + k) (sym here) (omega arith)

  -- they are within the values
  pub row-within : (start m n : ℕ) → start ≡ line_place lines 1 place 0 → 0 < m
      → place % lines.stride + m ≤ lines.stride → place + m ≤ line_values lines 1 → n < lines.length
      → start + n * lines.stride + m ≤ line_values lines lines.length
  row-within start m n is some block below number =
      let k : ℕ = m - 1 in
      let first : ℕ = line_place lines 1 (place + k) 0 in
      let read = is_read lines (place + k) n first (omega arith) number refl in
      let there : first ≡ line_place lines 1 place 0 + 0 * lines.stride + k =
      row-place k 0 (omega arith) in
      omega (arith, read.inside, there, is)
