-- What Strassen's products make up, said of the cells that their factors were made of.
use Rattle.std.proofs.Common.{◌≡◌, ℕ, zero, suc, ◌+◌, ◌*◌, ◌/◌, ◌%◌, ◌<◌, ℤ, ◌+ℤ◌, List, refl, ap, sym}
use Rattle.std.proofs.Common.{◌∙◌, arith, subst}
use Rattle.std.proofs.Math.Nat.{mul-add-mod_self_right, mul-add-div_right}
use Rattle.std.proofs.lemmas.Nat.{div-mul-add, mod-mul-add}
use Rattle.tensor_shape.specs.Wrap.{wrap}
use Rattle.tensor_values.specs.Values.{value_in}
use Rattle.tensor_kernels.specs.Panels.{cell_of, panel_place}
use Rattle.tensor_dots.specs.Products.{dot}
use Rattle.tensor_kernels.specs.private.Quartering.{half_size}
use Rattle.tensor_kernels.specs.private.Strassen.{cell, sum_of, difference_of, IsFactor, product_sum}
use Rattle.tensor_kernels.specs.private.Strassen.{AreFirstFactors}
use Rattle.tensor_kernels.specs.private.Strassen.{AreSecondFactors, quadrant_sum}
use Rattle.tensor_kernels.specs.declared.panels.Panels.{Panels}
use Rattle.tensor_kernels.specs.declared.tiling.strassen.factors.Factors.{Factors}
use Rattle.tensor_kernels.specs.declared.tiling.strassen.half.Half.{Half}
use Rattle.tensor_kernels.specs.declared.tiling.strassen.quarters.Quarter.TheVariants.{FirstEarlier}
use Rattle.tensor_kernels.specs.declared.tiling.strassen.quarters.Quarter.TheVariants.{FirstLater}
use Rattle.tensor_kernels.specs.declared.tiling.strassen.quarters.Quarter.TheVariants.{SecondEarlier}
use Rattle.tensor_kernels.specs.declared.tiling.strassen.quarters.Quarter.TheVariants.{SecondLater}
use Rattle.tensor_kernels.specs.declared.tiling.strassen.quarters.Quarters.{Quarters}
use Rattle.tensor_kernels.proofs.Congruence.{same-add, same-sub, same-dot}
use Rattle.tensor_dots.proofs.LaneSums.{same-factors}
use Rattle.tensor_kernels.proofs.PanelPlaces.{panel_place-inside}
use Rattle.tensor_dots.proofs.ProductSums.{sum_to-ext}
use Rattle.tensor_kernels.proofs.Strassen.{AreSeven, first_first, first_second, second_first}
use Rattle.tensor_kernels.proofs.Strassen.{second_second}

-- sums of the products of the same numbers
pub dot-ext : (f f' g g' : ℕ → ℤ) (n : ℕ) → ((q : ℕ) → q < n → f q ≡ f' q)
    → ((q : ℕ) → q < n → g q ≡ g' q) → dot f g n ≡ dot f' g' n
dot-ext f f' g g' n left right =
    sum_to-ext _ _ n (λ q below. same-factors (left q below) (right q below))

-- the cells of the second half of the panels lie behind the cells of the first half
place-second : (h panels x q : ℕ) → 0 < h
    → panel_place h 128 (panels * h + x) q ≡ panels * (128 * h) + panel_place h 128 x q
place-second h panels x q some =
    let panel : (panels * h + x) / h ≡ panels + x / h = mul-add-div_right some panels x in
    let row : (panels * h + x) % h ≡ x % h = mul-add-mod_self_right panels h x in
    rw (panel, row) (omega arith)

-- value k of a product, by the numbers that its factors are
product-value : (left right : Half) (a b : Panels) (f g : ℕ → ℤ) (n j t : ℕ)
    → left.height ≡ 16 → left.panels ≡ 1 → right.height ≡ 1 → right.panels ≡ n → t < 16 → j < n
    → IsFactor left a f → IsFactor right b g → wrap (product_sum a b (16 * j + t))
    ≡ wrap (dot (λ q. f (panel_place 16 128 t q)) (λ q. g (panel_place 1 128 j q)) 128)
product-value left right a b f g n j t height panels single all row column is_a is_b =
    let k = 16 * j + t in
    let turn : k ≡ j * 16 + t = omega arith in
    let row_of : k % 16 ≡ t = ap (λ k. k % 16) turn ∙ mod-mul-add j 16 t row in
    let column_of : k / 16 ≡ j = ap (λ k. k / 16) turn ∙ div-mul-add j 16 t row in
    let size : half_size left ≡ 1 * (128 * 16) = rw (height, panels) refl in
    let size' : half_size right ≡ n * (128 * 1) = rw (single, all) refl in
    ap (λ x. wrap (dot (cell_of 16 a.cells.items 128 x) (cell_of 1 b.cells.items 128 (k / 16))
    128)) row_of
    ∙ ap (λ y. wrap (dot (cell_of 16 a.cells.items 128 t) (cell_of 1 b.cells.items 128 y) 128))
    column_of
    ∙ same-dot (cell_of 16 a.cells.items 128 t) (λ q. f (panel_place 16 128 t q))
    (cell_of 1 b.cells.items 128 j) (λ q. g (panel_place 1 128 j q)) 128
    (λ q below. is_a.each (panel_place 16 128 t q)
    (subst (λ n. panel_place 16 128 t q < n) (sym size)
    (panel_place-inside 16 128 t q 1 (omega arith) (omega arith) below)))
    (λ q below. is_b.each (panel_place 1 128 j q)
    (subst (λ n. panel_place 1 128 j q < n) (sym size')
    (panel_place-inside 1 128 j q n (omega arith) (omega arith) below)))

-- a row of the second half
second-row : (q : Quarters) (xs : List ℤ) (h panels x z : ℕ) → 0 < h → q.half.height ≡ h
    → q.half.panels ≡ panels
    → cell_of h xs 128 (panels * h + x) z ≡ value_in xs (half_size q.half + panel_place h 128 x z)
second-row q xs h panels x z some height count =
    let size : half_size q.half ≡ panels * (128 * h) = rw (height, count) refl in
    ap (value_in xs)
    (place-second h panels x z some ∙ ap (λ n. n + panel_place h 128 x z) (sym size))

-- what the products of factors make up, in a quadrant
abbrev pub factors_quadrant : Factors → Factors → ℕ → ℕ → ℕ → ℤ
factors_quadrant a b r s k =
    quadrant_sum r s (product_sum a.m1 b.m1 k) (product_sum a.m2 b.m2 k)
    (product_sum a.m3 b.m3 k) (product_sum a.m4 b.m4 k) (product_sum a.m5 b.m5 k)
    (product_sum a.m6 b.m6 k) (product_sum a.m7 b.m7 k)

-- one row of either half of the first operand's rows, and one column of either half
module _ (rows columns : Quarters) (of_rows of_columns : Factors) (n j t : ℕ)
    (height : rows.half.height ≡ 16) (panels : rows.half.panels ≡ 1)
    (single : columns.half.height ≡ 1) (all : columns.half.panels ≡ n) (row : t < 16)
    (column : j < n) (firsts : AreFirstFactors rows of_rows)
    (seconds : AreSecondFactors columns of_columns)
  where
    abbrev k : ℕ
    k = 16 * j + t

    abbrev a : ℕ → ℤ
    a q = cell rows FirstEarlier (panel_place 16 128 t q)

    abbrev b : ℕ → ℤ
    b q = cell rows FirstLater (panel_place 16 128 t q)

    abbrev c : ℕ → ℤ
    c q = cell rows SecondEarlier (panel_place 16 128 t q)

    abbrev d : ℕ → ℤ
    d q = cell rows SecondLater (panel_place 16 128 t q)

    abbrev e : ℕ → ℤ
    e q = cell columns FirstEarlier (panel_place 1 128 j q)

    abbrev f : ℕ → ℤ
    f q = cell columns FirstLater (panel_place 1 128 j q)

    abbrev g : ℕ → ℤ
    g q = cell columns SecondEarlier (panel_place 1 128 j q)

    abbrev h : ℕ → ℤ
    h q = cell columns SecondLater (panel_place 1 128 j q)

    abbrev v1 : ℤ
    v1 = product_sum of_rows.m1 of_columns.m1 k

    abbrev m1 : ℤ
    m1 =
        dot (λ q. (sum_of rows FirstEarlier SecondLater) (panel_place 16 128 t q))
        (λ q. (sum_of columns FirstEarlier SecondLater) (panel_place 1 128 j q)) 128

    same1 : wrap v1 ≡ wrap m1
    same1 =
        product-value rows.half columns.half of_rows.m1 of_columns.m1 (sum_of rows FirstEarlier SecondLater)
        (sum_of columns FirstEarlier SecondLater) n j t height panels single all row column
        firsts.m1 seconds.m1

    abbrev v2 : ℤ
    v2 = product_sum of_rows.m2 of_columns.m2 k

    abbrev m2 : ℤ
    m2 =
        dot (λ q. (sum_of rows SecondEarlier SecondLater) (panel_place 16 128 t q))
        (λ q. (cell columns FirstEarlier) (panel_place 1 128 j q)) 128

    same2 : wrap v2 ≡ wrap m2
    same2 =
        product-value rows.half columns.half of_rows.m2 of_columns.m2 (sum_of rows SecondEarlier SecondLater)
        (cell columns FirstEarlier) n j t height panels single all row column
        firsts.m2 seconds.m2

    abbrev v3 : ℤ
    v3 = product_sum of_rows.m3 of_columns.m3 k

    abbrev m3 : ℤ
    m3 =
        dot (λ q. (cell rows FirstEarlier) (panel_place 16 128 t q))
        (λ q. (difference_of columns SecondEarlier SecondLater) (panel_place 1 128 j q)) 128

    same3 : wrap v3 ≡ wrap m3
    same3 =
        product-value rows.half columns.half of_rows.m3 of_columns.m3 (cell rows FirstEarlier)
        (difference_of columns SecondEarlier SecondLater) n j t height panels single all row column
        firsts.m3 seconds.m3

    abbrev v4 : ℤ
    v4 = product_sum of_rows.m4 of_columns.m4 k

    abbrev m4 : ℤ
    m4 =
        dot (λ q. (cell rows SecondLater) (panel_place 16 128 t q))
        (λ q. (difference_of columns FirstLater FirstEarlier) (panel_place 1 128 j q)) 128

    same4 : wrap v4 ≡ wrap m4
    same4 =
        product-value rows.half columns.half of_rows.m4 of_columns.m4 (cell rows SecondLater)
        (difference_of columns FirstLater FirstEarlier) n j t height panels single all row column
        firsts.m4 seconds.m4

    abbrev v5 : ℤ
    v5 = product_sum of_rows.m5 of_columns.m5 k

    abbrev m5 : ℤ
    m5 =
        dot (λ q. (sum_of rows FirstEarlier FirstLater) (panel_place 16 128 t q))
        (λ q. (cell columns SecondLater) (panel_place 1 128 j q)) 128

    same5 : wrap v5 ≡ wrap m5
    same5 =
        product-value rows.half columns.half of_rows.m5 of_columns.m5 (sum_of rows FirstEarlier FirstLater)
        (cell columns SecondLater) n j t height panels single all row column
        firsts.m5 seconds.m5

    abbrev v6 : ℤ
    v6 = product_sum of_rows.m6 of_columns.m6 k

    abbrev m6 : ℤ
    m6 =
        dot (λ q. (difference_of rows SecondEarlier FirstEarlier) (panel_place 16 128 t q))
        (λ q. (sum_of columns FirstEarlier SecondEarlier) (panel_place 1 128 j q)) 128

    same6 : wrap v6 ≡ wrap m6
    same6 =
        product-value rows.half columns.half of_rows.m6 of_columns.m6 (difference_of rows SecondEarlier FirstEarlier)
        (sum_of columns FirstEarlier SecondEarlier) n j t height panels single all row column
        firsts.m6 seconds.m6

    abbrev v7 : ℤ
    v7 = product_sum of_rows.m7 of_columns.m7 k

    abbrev m7 : ℤ
    m7 =
        dot (λ q. (difference_of rows FirstLater SecondLater) (panel_place 16 128 t q))
        (λ q. (sum_of columns FirstLater SecondLater) (panel_place 1 128 j q)) 128

    same7 : wrap v7 ≡ wrap m7
    same7 =
        product-value rows.half columns.half of_rows.m7 of_columns.m7 (difference_of rows FirstLater SecondLater)
        (sum_of columns FirstLater SecondLater) n j t height panels single all row column
        firsts.m7 seconds.m7

    seven : AreSeven a b c d e f g h 128 m1 m2 m3 m4 m5 m6 m7
    seven = record {
      is1 = refl;
      is2 = refl;
      is3 = refl;
      is4 = refl;
      is5 = refl;
      is6 = refl;
      is7 = refl;
    }

    -- a row of a chunk's cells, in the first half of the rows or in the second
    abbrev row_of : List ℤ → ℕ → ℕ → ℤ
    row_of xs r = cell_of 16 xs 128 (r * 16 + t)

    -- and a column
    abbrev column_of : List ℤ → ℕ → ℕ → ℤ
    column_of xs s = cell_of 1 xs 128 (s * n + j)

    first-row : (xs : List ℤ) (q : ℕ) → value_in xs (panel_place 16 128 t q) ≡ row_of xs 0 q
    first-row xs q = ap (λ x. cell_of 16 xs 128 x q) (omega arith)

    last-row : (xs : List ℤ) (q : ℕ)
        → value_in xs (half_size rows.half + panel_place 16 128 t q) ≡ row_of xs 1 q
    last-row xs q = sym (second-row rows xs 16 1 t q (omega arith) height panels)

    first-column : (xs : List ℤ) (q : ℕ) → value_in xs (panel_place 1 128 j q) ≡ column_of xs 0 q
    first-column xs q = ap (λ y. cell_of 1 xs 128 y q) (omega arith)

    last-column : (xs : List ℤ) (q : ℕ)
        → value_in xs (half_size columns.half + panel_place 1 128 j q) ≡ column_of xs 1 q
    last-column xs q =
        sym (second-row columns xs 1 n j q (omega arith) single all)
        ∙ ap (λ y. cell_of 1 xs 128 y q) (omega arith)

    abbrev total : ℕ → ℕ → ℤ
    total r s =
        dot (row_of rows.earlier.items r) (column_of columns.earlier.items s) 128
        +ℤ dot (row_of rows.later.items r) (column_of columns.later.items s) 128

    -- the sums of both chunks, said of their cells
    as-total : (r s : ℕ) (x y z w : ℕ → ℤ) → ((q : ℕ) → x q ≡ row_of rows.earlier.items r q)
        → ((q : ℕ) → y q ≡ column_of columns.earlier.items s q)
        → ((q : ℕ) → z q ≡ row_of rows.later.items r q)
        → ((q : ℕ) → w q ≡ column_of columns.later.items s q)
        → wrap (dot x y 128 +ℤ dot z w 128) ≡ wrap (total r s)
    as-total r s x y z w row column row' column' =
        let left : dot x y 128
        ≡ dot (row_of rows.earlier.items r) (column_of columns.earlier.items s) 128 =
        dot-ext x _ y _ 128 (λ q h. row q) (λ q h. column q) in
        let right : dot z w 128
        ≡ dot (row_of rows.later.items r) (column_of columns.later.items s) 128 =
        dot-ext z _ w _ 128 (λ q h. row' q) (λ q h. column' q) in
        ap (λ v. wrap (v +ℤ dot z w 128)) left
        ∙ ap (λ v. wrap (dot (row_of rows.earlier.items r) (column_of columns.earlier.items s) 128
        +ℤ v)) right

    -- each quadrant has the sums of the products of both chunks
    pub quadrant-total : (r s : ℕ) → r < 2 → s < 2
        → wrap (factors_quadrant of_rows of_columns r s (16 * j + t)) ≡ wrap (total r s)
    quadrant-total zero zero row column =
        same-sub ((v1 +ℤ v4) +ℤ v7) ((m1 +ℤ m4) +ℤ m7) v5 m5
        (same-add (v1 +ℤ v4) (m1 +ℤ m4) v7 m7 (same-add v1 m1 v4 m4 same1 same4) same7) same5
        ∙ ap wrap (first_first seven)
        ∙ as-total 0 0 a e b f (first-row rows.earlier.items) (first-column columns.earlier.items)
        (first-row rows.later.items) (first-column columns.later.items)
    quadrant-total zero (suc zero) row column =
        same-add v3 m3 v5 m5 same3 same5
        ∙ ap wrap (first_second seven)
        ∙ as-total 0 1 a g b h (first-row rows.earlier.items) (last-column columns.earlier.items)
        (first-row rows.later.items) (last-column columns.later.items)
    quadrant-total (suc zero) zero row column =
        same-add v2 m2 v4 m4 same2 same4
        ∙ ap wrap (second_first seven)
        ∙ as-total 1 0 c e d f (last-row rows.earlier.items) (first-column columns.earlier.items)
        (last-row rows.later.items) (first-column columns.later.items)
    quadrant-total (suc zero) (suc zero) row column =
        same-sub ((v1 +ℤ v3) +ℤ v6) ((m1 +ℤ m3) +ℤ m6) v2 m2
        (same-add (v1 +ℤ v3) (m1 +ℤ m3) v6 m6 (same-add v1 m1 v3 m3 same1 same3) same6) same2
        ∙ ap wrap (second_second seven)
        ∙ as-total 1 1 c g d h (last-row rows.earlier.items) (last-column columns.earlier.items)
        (last-row rows.later.items) (last-column columns.later.items)
    quadrant-total zero (suc (suc s)) row column = absurd (omega (arith, column))
    quadrant-total (suc zero) (suc (suc s)) row column = absurd (omega (arith, column))
    quadrant-total (suc (suc r)) s row column = absurd (omega (arith, row))
