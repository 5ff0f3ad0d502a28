-- What values of lines are combined to, one row of a block after the other.
use Rattle.std.proofs.Common.{◌≡◌, ℕ, ℤ, zero, suc, ◌+◌, ◌-◌, ◌*◌, ◌/◌, ◌%◌, ◌<◌, List, [], ◌∷◌, length, map, take}
use Rattle.std.proofs.Common.{inl, inr, ap, sym, ◌∙◌, arith}
use Rattle.std.specs.List.{fold, range_with_len}
use Rattle.std.proofs.lemmas.Bool.{cases_lt}
use Rattle.std.proofs.lemmas.List.FromFn.{map-range_with_len_more, take-map-range_with_len}
use Rattle.std.proofs.lemmas.List.Sums.{fold-append}
use Rattle.std.proofs.lemmas.Nat.{div-add-mod', div-mul-add, mod-mul-add, mul-add-lt}
use Rattle.std.proofs.Math.Nat.{add-div_right, add-mod_right, div-one, mod-one}
use Rattle.tensor_scans.specs.Places.{line_through}
use Rattle.tensor_scans.specs.declared.lines.Lines.{Lines}
use Rattle.tensor_scans.specs.private.Rows.{cumulated_at, rows_combined, running_at}
use Rattle.tensor_scans.proofs.Rows.{IsAt, is_in, number_of, line_through-at}
use Rattle.tensor_values.specs.Combining.{combine, combination, unit}
use Rattle.tensor_values.specs.declared.reducer.Reducer.{Reducer}
use Rattle.tensor_values.specs.Values.{value_in}
use Rattle.tensor_values.proofs.Runs.{map-shifted, part-read}

module _ (r : Reducer) (s : ℕ) (f : ℕ → ℤ) where
  -- one row more
  pub rows-more : (i n : ℕ)
      → rows_combined r s f i (n + 1) ≡ combine r (rows_combined r s f i n) (f (i + s * n))
  rows-more i n =
      let g : ℕ → ℤ = λ k. f (i + s * k) in
      ap (fold (combine r) (unit r)) (map-range_with_len_more g 0 n n (omega arith))
      ∙ fold-append (combine r) (unit r) (map g (range_with_len 0 n)) (g n ∷ [])

  -- the places of a row have equally many rows before them
  pub running-row : (q k : ℕ) → q % s + k < s
      → rows_combined r s f (q % s + k) (q / s + 1) ≡ running_at r s f (q + k)
  running-row q k inside =
      let parts : q / s * s + (q % s + k) ≡ q + k = omega (arith, div-add-mod' q s) in
      let offset : (q + k) % s ≡ q % s + k =
      ap (λ n. n % s) (sym parts) ∙ mod-mul-add (q / s) s (q % s + k) inside in
      let row : (q + k) / s ≡ q / s =
      ap (λ n. n / s) (sym parts) ∙ div-mul-add (q / s) s (q % s + k) inside in
      sym (ap (λ n. rows_combined r s f n ((q + k) / s + 1)) offset
      ∙ ap (λ n. rows_combined r s f (q % s + k) (n + 1)) row)

  -- the next value of a line
  running-next : (q : ℕ) → 0 < s → running_at r s f (q + s) ≡ combine r (running_at r s f q) (f (q + s))
  running-next q some =
      let offset : (q + s) % s ≡ q % s = add-mod_right q s in
      let row : (q + s) / s ≡ q / s + 1 = add-div_right q some in
      let parts : q / s * s + q % s ≡ q = div-add-mod' q s in
      let place : q % s + s * (q / s + 1) ≡ q + s = grind arith in
      ap (λ n. rows_combined r s f n ((q + s) / s + 1)) offset
      ∙ ap (λ n. rows_combined r s f (q % s) (n + 1)) row
      ∙ rows-more (q % s) (q / s + 1)
      ∙ ap (λ n. combine r (running_at r s f q) (f n)) place

  -- values that follow each other, from those at the first places on
  module _ (g : ℕ → ℤ) (from n : ℕ) (some : 0 < s)
      (first : (k : ℕ) → k < s → k < n → g k ≡ running_at r s f (from + k))
      (next : (k : ℕ) → k + s < n → g (k + s) ≡ combine r (g k) (f (from + (k + s)))) where
    followed : (m k : ℕ) → k < m → k < n → g k ≡ running_at r s f (from + k)
    followed zero k below inside = absurd (omega arith)
    followed (suc m) k below inside =
        elim (cases_lt k s) [
          | inl early ↦ first k early inside
          | inr late ↦
              let j : ℕ = k - s in
              let here : j + s ≡ k = omega (arith, late) in
              let place : from + j + s ≡ from + (j + s) = omega arith in
              ap g (sym here) ∙ next j (omega arith)
              ∙ ap (λ x. combine r x (f (from + (j + s)))) (followed m j (omega arith) (omega arith))
              ∙ ap (λ q. combine r (running_at r s f (from + j)) (f q)) (sym place)
              ∙ sym (running-next (from + j) some)
              ∙ ap (running_at r s f) (omega arith)
        ]

    pub running-follows : (k : ℕ) → k < n → g k ≡ running_at r s f (from + k)
    running-follows k inside = followed (k + 1) k (omega arith) inside

-- along one line alone
pub running-line : (r : Reducer) (values : List ℤ) (q : ℕ) → q < length values
    → combination r (take (q + 1) values) ≡ running_at r 1 (value_in values) q
running-line r values q within =
    let f : ℕ → ℤ = value_in values in
    let g : ℕ → ℤ = λ k. f (q % 1 + 1 * k) in
    ap (combination r) (part-read values 0 (q + 1) (omega arith))
    ∙ ap (combination r) (map-shifted f g 0 0 (q + 1) (λ k below. ap f (omega (arith, mod-one q))))
    ∙ ap (λ n. combination r (map g (range_with_len 0 (n + 1)))) (sym (div-one q))

-- a place of a block, whose values are a part of all
pub running-block : (r : Reducer) (lines : Lines) (f g : ℕ → ℤ) (block q : ℕ)
    → q < lines.stride * lines.length
    → ((k : ℕ) → k < lines.stride * lines.length
    → g k ≡ f (block * (lines.stride * lines.length) + k))
    → running_at r lines.stride g q ≡ cumulated_at r lines f (block * (lines.stride * lines.length) + q)
running-block r lines f g block q within same =
    let s = lines.stride in
    let d = lines.length in
    let i : ℕ = q % s in
    let j : ℕ = q / s in
    let p : ℕ = block * (s * d) + q in
    let at : IsAt s d block i j p = is_in s d block q within in
    let h : ℕ → ℤ = λ k. f (i + s * (k + d * block)) in
    let each : (k : ℕ) → k < j + 1 → g (i + s * (0 + k)) ≡ h (0 + k) =
    λ k below.
    let inside : k * s + i < s * d = mul-add-lt k s i d (omega (arith, at.row)) at.inside in
    ap g (grind arith) ∙ same (k * s + i) inside ∙ ap f (grind arith) in
    ap (combination r) (map-shifted (λ k. g (i + s * k)) h 0 0 (j + 1) each)
    ∙ ap (combination r) (sym (take-map-range_with_len h 0 d (j + 1) (omega (arith, at.row))))
    ∙ ap (λ l. combination r (take (j + 1) l)) (sym (line_through-at lines d f block i j p at))
    ∙ ap (λ n. combination r (take (n + 1) (line_through lines d f p)))
    (sym (number_of s d block i j p at))
