-- Where the values of rows in panels of a height lie, and their pairs.
use Rattle.std.proofs.Common.{◌≡◌, ℕ, ◌+◌, ◌*◌, ◌-◌, ◌/◌, ◌%◌, ◌<◌, ◌≤◌, ℤ, List, length, refl, ap}
use Rattle.std.proofs.Common.{sym, ◌∙◌, arith, inl, inr, pos, ◌++◌, map, min, slice_index}
use Rattle.std.proofs.Common.{length-append, add-one-le, mul-le-mul_right}
use Rattle.std.proofs.Math.Nat.{div-add-mod}
use Rattle.std.proofs.lemmas.Bool.{cases_lt}
use Rattle.std.proofs.lemmas.Grind.{div_ceil_times}
use Rattle.std.proofs.lemmas.List.{get_or-map, length-map, get_or_append_left}
use Rattle.std.proofs.lemmas.List.{get_or-append_right}
use Rattle.std.proofs.lemmas.Nat.{div-mul-add, mod-mul-add, div-add-mod', mul-add-lt, div_below}
use Rattle.std.proofs.lemmas.Nat.{mod_below}
use Rattle.std.specs.Int.{div_ceil}
use Rattle.tensor_shape.specs.Wrap.{wrap}
use Rattle.tensor_values.specs.Values.{value_in}
use Rattle.tensor_kernels.specs.private.Pairs.{own_pairs, lane, ArePairSums}
use Rattle.tensor_kernels.specs.Panels.{panel_place, cell_of, part_value, AreCells}
use Rattle.tensor_dots.proofs.ProductSums.{sum_to-ext}

-- row j of panel p is row p * h + j
pub panel_place-row : (h n p j q : ℕ) → j < h
    → panel_place h n (p * h + j) q ≡ p * (n * h) + (h * q + j)
panel_place-row h n p j q inside = rw (div-mul-add p h j inside, mod-mul-add p h j inside) refl

-- a value lies within its panel
place-within : (h n q j : ℕ) → q < n → j < h → h * q + j < n * h
place-within h n q j few inside = omega (arith, mul-add-lt q h j n few inside)

-- a value lies within the given number of panels
pub panel_place-inside : (h n x q panels : ℕ) → 0 < h → x < panels * h → q < n
    → panel_place h n x q < panels * (n * h)
panel_place-inside h n x q panels some below few =
    let within : h * q + x % h < n * h = place-within h n q (x % h) few (mod_below x h some) in
    omega (
      arith,
      mul-add-lt (x / h) (n * h) (h * q + x % h) panels (div_below x h panels some below)
          within,
    )

-- a place tells its group of w and where in that it lies
same_group : (a b w i j : ℕ) → i < w → j < w → a * w + i ≡ b * w + j → (a ≡ b) × (i ≡ j)
same_group a b w i j first second same = (
  sym (div-mul-add a w i first) ∙ ap (λ k. k / w) same ∙ div-mul-add b w j second,
  sym (mod-mul-add a w i first) ∙ ap (λ k. k % w) same ∙ mod-mul-add b w j second,
)

-- a place is that of one value of one row alone
panel_place-only : (h n x q p r j : ℕ) → 0 < h → q < n → r < n → j < h
    → panel_place h n x q ≡ p * (n * h) + (h * r + j) → (x ≡ p * h + j) × (q ≡ r)
panel_place-only h n x q p r j some few short inside same =
    let rest : x % h < h = mod_below x h some in
    let panel = same_group (x / h) p (n * h) (h * q + x % h) (h * r + j)
    (place-within h n q (x % h) few rest) (place-within h n r j short inside) same in
    let value = same_group q r h (x % h) j rest inside (omega (arith, panel.1)) in (
      sym (div-add-mod' x h) ∙ ap (λ a. a * h + x % h) (panel.0) ∙ ap (λ i. p * h + i) (value.1),
      value.0,
    )

-- each place is that of a value of a row
pub panel_place-of : (h n k : ℕ) → 0 < h
    → panel_place h n (k / (n * h) * h + k % (n * h) % h) (k % (n * h) / h) ≡ k
panel_place-of h n k some =
    let r = k % (n * h) in
    panel_place-row h n (k / (n * h)) (r % h) (r / h) (mod_below r h some)
    ∙ ap (λ i. k / (n * h) * (n * h) + i) (div-add-mod r h)
    ∙ div-add-mod' k (n * h)

-- the cells up to the values q of panel p's rows, and these
pub are_cells-more : (cells values : List ℤ) (rows offsets starts : List ℕ) (p q : ℕ)
    → 0 < length starts → q < length offsets
    → length cells ≡ p * (length offsets * length starts) + length starts * q
    → ((j : ℕ) → j < length starts → slice_index starts j
    ≡ slice_index rows (min (p * length starts + j) (length rows - 1)))
    → AreCells (length starts) cells values rows offsets
    → AreCells (length starts)
    (cells ++ map (λ start. value_in values (start + slice_index offsets q)) starts)
    values rows offsets
are_cells-more cells values rows offsets starts p q some short long same so_far x r few below =
    let h = length starts in
    let value : ℕ → ℤ = λ start. value_in values (start + slice_index offsets q) in
    let k = panel_place h (length offsets) x r in
    let count : length (map value starts) ≡ h = simp length-map in
    elim (cases_lt k (length cells)) [
      | inl before ↦ get_or_append_left cells (map value starts) (pos 0) k before
          ∙ so_far x r few before
      | inr after ↦
          let j = k - length cells in
          let inside : j < h = omega (arith, length-append cells (map value starts)) in
          let only = panel_place-only h (length offsets) x r p q j some few short inside
          (omega arith) in
          get_or-append_right cells (map value starts) (length cells) k (pos 0) refl after
          ∙ get_or-map value starts j 0 (pos 0) inside
          ∙ ap value (same j inside)
          ∙ ap (λ q. part_value values rows offsets (p * h + j) q) (sym (only.1))
          ∙ ap (λ x. part_value values rows offsets x r) (sym (only.0))
    ]

-- the cell at the place of a row's value
pub are_cells-row : (h : ℕ) (cells values : List ℤ) (rows offsets : List ℕ) (x q : ℕ)
    → 0 < h → length cells ≡ div_ceil (length rows) h * (length offsets * h)
    → AreCells h cells values rows offsets → x < length rows → q < length offsets
    → cell_of h cells (length offsets) x q
    ≡ value_in values (slice_index rows x + slice_index offsets q)
are_cells-row h cells values rows offsets x q some long are row few =
    let up : length rows ≤ div_ceil (length rows) h * h = (div_ceil_times (length rows) h some).0 in
    let below : x < div_ceil (length rows) h * h = omega arith in
    let panels = div_ceil (length rows) h in
    let inside = panel_place-inside h (length offsets) x q panels some below few in
    let last : min x (length rows - 1) ≡ x = omega arith in
    are x q few (rw long inside)
    ∙ ap (λ x. value_in values (slice_index rows x + slice_index offsets q)) last

-- where a row of panels begins, and that a panel more lies within them
pub row-place : (h n x panels : ℕ) → 0 < h → x < panels * h
    → (x / h * (n * h) + n * h ≤ panels * (n * h)) × (n * h ≤ panels * (n * h)) × (x % h < h)
row-place h n x panels some below =
    let panel = mul-le-mul_right (n * h) (add-one-le (div_below x h panels some below)) in
    (omega (arith, panel), omega (arith, panel), mod_below x h some)

-- a row's pairs, from where its panel begins
pub pairs-row : (h n x m : ℕ) (cells : List ℤ)
    → own_pairs (lane h cells (x / h * (n * h) + x % h)) m ≡ own_pairs (cell_of h cells n x) m
pairs-row h n x m cells =
    let same = λ (q : ℕ).
    let at : h * q + (x / h * (n * h) + x % h) ≡ panel_place h n x q = omega arith in
    ap (λ k. value_in cells k) at in
    sum_to-ext _ _ m (λ k below. let first = same (2 * k) in let second = same (2 * k + 1) in cc)

-- where heights are multiples of four, a panel has all of four rows or none
four-within : (h f : ℕ) → 0 < h → h % 4 ≡ 0 → 4 * f % h + 4 ≤ h
four-within h f some fours =
    let k = h / 4 in
    let s = 4 * f / h in
    let high : h ≡ 4 * k = omega arith in
    let whole : s * h ≡ 4 * (s * k) = ap (λ h. s * h) high ∙ omega arith in
    let all = div-add-mod' (4 * f) h in
    let rest = mod_below (4 * f) h some in
    omega (arith, high, whole, all, rest)

-- panels whose height is a multiple of four have a multiple of four rows
pub fours-whole : (panels h : ℕ) → h % 4 ≡ 0 → 4 * (panels * h / 4) ≡ panels * h
fours-whole panels h fours =
    let k = h / 4 in
    let high : h ≡ 4 * k = omega arith in
    let whole : panels * h ≡ 4 * (panels * k) = ap (λ h. panels * h) high ∙ omega arith in
    omega (arith, whole)

-- so row t of them is in the same panel, t rows further
row-of-four : (h f t : ℕ) → 0 < h → h % 4 ≡ 0 → t < 4
    → ((4 * f + t) / h ≡ 4 * f / h) × ((4 * f + t) % h ≡ 4 * f % h + t)
row-of-four h f t some fours below =
    let s = 4 * f / h in
    let r = 4 * f % h in
    let within : r + t < h = omega (arith, four-within h f some fours) in
    let place : 4 * f + t ≡ s * h + (r + t) = omega (arith, div-add-mod' (4 * f) h) in (
      ap (λ x. x / h) place ∙ div-mul-add s h (r + t) within,
      ap (λ x. x % h) place ∙ mod-mul-add s h (r + t) within,
    )

-- and begins there
pub place-of-four : (h n f t : ℕ) → 0 < h → h % 4 ≡ 0 → t < 4
    → 4 * f / h * (n * h) + 4 * f % h + t ≡ (4 * f + t) / h * (n * h) + (4 * f + t) % h
place-of-four h n f t some fours below =
    let row = row-of-four h f t some fours below in
    sym (ap (λ s. s * (n * h) + (4 * f + t) % h) (row.0)
    ∙ ap (λ r. 4 * f / h * (n * h) + r) (row.1)
    ∙ omega arith)

-- all four lie within the panels
pub four-inside : (h n f q panels : ℕ) → 0 < h → h % 4 ≡ 0 → f < panels * h / 4 → q < n
    → h * q + (4 * f / h * (n * h) + 4 * f % h + 3) < panels * (n * h)
four-inside h n f q panels some fours below few =
    let last : 4 * f + 3 < panels * h = omega arith in
    let inside = panel_place-inside h n (4 * f + 3) q panels some last few in
    omega (arith, inside, place-of-four h n f 3 some fours (omega arith))

-- the sums of four rows more
pub sums-of-four-more : (h n f : ℕ) (cells sums own : List ℤ) → length sums ≡ 4 * f
    → length own ≡ 4 → ArePairSums h sums cells n
    → ((t : ℕ) → t < 4 → value_in own t ≡ wrap (own_pairs (cell_of h cells n (4 * f + t)) (n / 2)))
    → ArePairSums h (sums ++ own) cells n
sums-of-four-more h n f cells sums own long four so_far here y below =
    elim (cases_lt y (length sums)) [
      | inl before ↦ get_or_append_left sums own (pos 0) y before ∙ so_far y before
      | inr after ↦
          let t = y - length sums in
          let few : t < 4 = omega (arith, length-append sums own) in
          let row : 4 * f + t ≡ y = omega arith in
          get_or-append_right sums own (length sums) y (pos 0) refl after
          ∙ here t few
          ∙ ap (λ y. wrap (own_pairs (cell_of h cells n y) (n / 2))) row
    ]
