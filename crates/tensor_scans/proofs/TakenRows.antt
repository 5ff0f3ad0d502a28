-- What lines have at numbers, by the rows where it stands.
use Rattle.std.proofs.Common.{◌≡◌, ℕ, ℤ, pos, negsuc, ◌+◌, ◌-◌, ◌*◌, ◌/◌, ◌%◌, ◌^◌, ◌<◌, ◌≤◌, List, Some, None, length}
use Rattle.std.proofs.Common.{refl, ap, sym, ◌∙◌, inl, inr, arith}
use Rattle.std.specs.Int.{w64}
use Rattle.std.specs.Prelude.{unsigned_abs}
use Rattle.std.proofs.lemmas.Bool.{cases_lt, lt-ltb, le-ltb}
use Rattle.std.proofs.lemmas.Int.{ints}
use Rattle.std.proofs.lemmas.List.{get_or_past}
use Rattle.std.proofs.lemmas.List.Edits.{get_or-between}
use Rattle.std.proofs.lemmas.List.FromFn.{fill_by_all, get_or-map-range_with_len, length-map-range_with_len}
use Rattle.std.proofs.lemmas.Nat.{div-add-mod', div-mul-add, mod-mul-add, div_below, mod_below, mul-add-lt}
use Rattle.std.specs.List.{between}
use mir.Val.{SFits, of_z}
use Rattle.tensor_scans.specs.Lines.{taken_from}
use Rattle.tensor_scans.specs.Places.{line_through, taken_at}
use Rattle.tensor_scans.specs.declared.lines.Lines.{Lines}
use Rattle.tensor_scans.specs.private.Rows.{line_at, row_of, taken_in}
use Rattle.tensor_scans.proofs.Rows.{IsAt, line_through-at, number_of}
use Rattle.tensor_scans.proofs.Steps.{along_rows}
use Rattle.tensor_values.specs.Values.{value_in}
use Rattle.tensor_values.proofs.Runs.{map-shifted}

-- a row that a block has begins at a multiple of the rows' width
pub record IsRow (lines : Lines) (number : ℤ) (first : ℕ) : Type 0 where
  pub place : first ≡ unsigned_abs number * lines.stride
  pub below : unsigned_abs number < lines.length

pub is_row : (lines : Lines) (number : ℤ) (first : ℕ) → row_of lines number ≡ Some first → IsRow lines number first
is_row lines (negsuc n) first is = (cc)
is_row lines (pos n) first is =
    elim (cases_lt n lines.length) [
      | inl below ↦
          let row = rw (le-ltb n 0 (omega arith), lt-ltb n lines.length below) at is in
          record { place = (cc); below = below }
      | inr past ↦
          let row = rw (le-ltb n 0 (omega arith), le-ltb n lines.length past) at is in
          (cc)
    ]

-- its values are those there
pub taken-some : (lines : Lines) (f : ℕ → ℤ) (number : ℤ) (first i : ℕ) → row_of lines number ≡ Some first
    → taken_from (line_at lines f i) number ≡ f (first + i)
taken-some lines f (negsuc n) first i is = (cc)
taken-some lines f (pos n) first i is =
    let row = is_row lines (pos n) first is in
    rw (le-ltb n 0 (omega arith))
    (get_or-map-range_with_len (λ k. f (i + lines.stride * k)) 0 lines.length n n (pos 0) row.below (omega arith)
    ∙ ap f (grind arith))

-- and those of another number are 0
pub taken-none : (lines : Lines) (f : ℕ → ℤ) (number : ℤ) (i : ℕ) → row_of lines number ≡ None
    → taken_from (line_at lines f i) number ≡ pos 0
taken-none lines f (negsuc n) i is = refl
taken-none lines f (pos n) i is =
    elim (cases_lt n lines.length) [
      | inl below ↦
          let row = rw (le-ltb n 0 (omega arith), lt-ltb n lines.length below) at is in
          (cc)
      | inr past ↦
          rw (le-ltb n 0 (omega arith))
          (get_or_past (line_at lines f i) n (pos 0)
          (omega (arith, length-map-range_with_len (λ k. f (i + lines.stride * k)) 0 lines.length)))
    ]

-- a line's value at a number, by the number without a sign: a negative one is past all
pub taken-within : (line : List ℤ) (number : ℤ) → SFits w64 number → length line < 2 ^ 63
    → of_z w64 number < length line → value_in line (of_z w64 number) ≡ taken_from line number
taken-within line (negsuc n) fits few below = absurd (omega (arith, ints, fits.sfits))
taken-within line (pos n) fits few below = rw (le-ltb n 0 (omega arith)) refl

pub taken-past : (line : List ℤ) (number : ℤ) → length line ≤ of_z w64 number → taken_from line number ≡ pos 0
taken-past line (negsuc n) past = refl
taken-past line (pos n) past = rw (le-ltb n 0 (omega arith)) (get_or_past line n (pos 0) past)

-- what is taken at a place of a block, whose values are a part of all
module _ (lines : Lines) (numbers : List ℤ) (f g : ℕ → ℤ) (block i j p : ℕ)
    (at : IsAt lines.stride (length numbers) block i j p)
    (same : (k : ℕ) → k < lines.stride * lines.length
    → g k ≡ f (block * (lines.stride * lines.length) + k)) where
  each : (k : ℕ) → k < lines.length
      → g (i + lines.stride * (0 + k)) ≡ f (i + lines.stride * (0 + k + lines.length * block))
  each k below =
      let s = lines.stride in
      let inside : k * s + i < s * lines.length = mul-add-lt k s i lines.length below at.inside in
      ap g (grind arith) ∙ same (k * s + i) inside ∙ ap f (grind arith)

  line : line_at lines g i ≡ line_through lines (length numbers) f p
  line =
      map-shifted (λ k. g (i + lines.stride * k))
      (λ k. f (i + lines.stride * (k + lines.length * block))) 0 0 lines.length each
      ∙ sym (line_through-at lines (length numbers) f block i j p at)

  taken_at-block : taken_from (line_at lines g i) (value_in numbers j) ≡ taken_at lines numbers f p
  taken_at-block =
      ap (λ l. taken_from l (value_in numbers j)) line
      ∙ ap (λ n. taken_from (line_through lines (length numbers) f p) (value_in numbers n))
      (sym (number_of lines.stride (length numbers) block i j p at))

-- what is taken further on in its rows
pub taken_at-rows : (lines : Lines) (numbers : List ℤ) (f g : ℕ → ℤ) (block i j p k : ℕ)
    → IsAt lines.stride (length numbers) block i j p
    → ((q : ℕ) → q < lines.stride * lines.length
    → g q ≡ f (block * (lines.stride * lines.length) + q))
    → i + k < lines.stride * (length numbers - j)
    → taken_in lines (between j (length numbers) numbers) g (i + k) ≡ taken_at lines numbers f (p + k)
taken_at-rows lines numbers f g block i j p k at same below =
    let s = lines.stride in
    let w = length numbers in
    let q : ℕ = i + k in
    let here : IsAt s w block (q % s) (j + q / s) (p + k) = along_rows s w block i j p at k below in
    ap (taken_from (line_at lines g (q % s))) (get_or-between numbers j w (q / s) (pos 0) here.row)
    ∙ taken_at-block lines numbers f g block (q % s) (j + q / s) (p + k) here same

-- what a row has is taken at the places of the row
pub taken_in-row : (lines : Lines) (numbers : List ℤ) (f : ℕ → ℤ) (i j q : ℕ) → i < lines.stride
    → j * lines.stride + i ≡ q
    → taken_from (line_at lines f i) (value_in numbers j) ≡ taken_in lines numbers f q
taken_in-row lines numbers f i j q below is =
    let s = lines.stride in
    let column : i ≡ q % s = sym (mod-mul-add j s i below) ∙ ap (λ n. n % s) is in
    let row : j ≡ q / s = sym (div-mul-add j s i below) ∙ ap (λ n. n / s) is in
    ap (λ n. taken_from (line_at lines f n) (value_in numbers j)) column
    ∙ ap (λ n. taken_from (line_at lines f (q % s)) (value_in numbers n)) row

-- what is taken by the numbers behind the first is taken a row further on by all
pub taken_in-rest : (lines : Lines) (numbers : List ℤ) (f : ℕ → ℤ) (k q : ℕ) → 0 < lines.stride
    → k < lines.stride * (length numbers - 1) → lines.stride + k ≡ q
    → taken_in lines (between 1 (length numbers) numbers) f k ≡ taken_in lines numbers f q
taken_in-rest lines numbers f k q some below is =
    let s = lines.stride in
    let parts : k / s * s + k % s ≡ k = div-add-mod' k s in
    let inside : k / s < length numbers - 1 = div_below k s (length numbers - 1) some (omega (arith, below)) in
    ap (taken_from (line_at lines f (k % s)))
    (get_or-between numbers 1 (length numbers) (k / s) (pos 0) (omega (arith, inside)))
    ∙ taken_in-row lines numbers f (k % s) (1 + k / s) q (mod_below k s some) (omega (arith, parts, is))

-- where rows have one place, all values of a block are a line
line_at-alone : (lines : Lines) (line : List ℤ) → lines.stride ≡ 1 → length line ≡ lines.length
    → line ≡ line_at lines (value_in line) 0
line_at-alone lines line alone long =
    fill_by_all (λ k. value_in line (0 + lines.stride * k)) line lines.length (pos 0) long
    (λ k below. ap (value_in line) (grind arith))

pub taken_in-line : (lines : Lines) (numbers line : List ℤ) (k : ℕ) → lines.stride ≡ 1
    → length line ≡ lines.length
    → taken_from line (value_in numbers k) ≡ taken_in lines numbers (value_in line) k
taken_in-line lines numbers line k alone long =
    ap (λ l. taken_from l (value_in numbers k)) (line_at-alone lines line alone long)
    ∙ taken_in-row lines numbers (value_in line) 0 k k (omega arith) (grind arith)
