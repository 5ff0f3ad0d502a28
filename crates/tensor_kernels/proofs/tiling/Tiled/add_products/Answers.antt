use Rattle.std.proofs.Common.{◌≡◌, ℕ, ◌+◌, ◌-◌, ◌*◌, ◌/◌, ◌%◌, ◌<◌, ◌≤◌, ℤ, ◌+ℤ◌, List, length, min}
use Rattle.std.proofs.Common.{take, drop, slice_index, refl, ap, sym, subst, ◌∙◌, arith}
use Rattle.std.proofs.Common.{length-take, length-drop}
use Rattle.std.proofs.Math.Nat.{mul-add-mod_self_right, mul-add-div_right}
use Rattle.std.proofs.lemmas.List.Edits.{get_or-between}
use Rattle.std.proofs.lemmas.Nat.{div-add-mod', div_below, mod_below}
use Rattle.std.specs.Cow.{cow_slice_items}
use Rattle.tensor_shape.specs.Wrap.{wrap}
use Rattle.tensor_kernels.specs.Chunks.{before}
use Rattle.tensor_kernels.specs.private.PairedBands.{IsOfColumns, HasColumns}
use Rattle.tensor_kernels.specs.Panels.{cell_of}
use Rattle.tensor_dots.specs.Products.{sum_to}
use Rattle.tensor_dots.specs.Rows.{row_count, row_value}
use Rattle.tensor_kernels.specs.private.Strassen.{AreFirstFactors, AreAdded, product_sum, quadrant_value, sum_at}
use Rattle.tensor_kernels.specs.Tiling.{product_at, pair_total, gathered_total}
use Rattle.tensor_values.specs.Values.{value_in}
use Rattle.tensor_kernels.specs.declared.tiling.Tiled.{Tiled}
use Rattle.tensor_kernels.specs.declared.tiling.strassen.factors.Factors.{Factors}
use Rattle.tensor_kernels.specs.declared.tiling.strassen.products.Products.{Products}
use Rattle.tensor_kernels.specs.declared.tiling.strassen.quarters.Quarters.{Quarters}
use Rattle.tensor_kernels.proofs.ChunkSums.{before-later}
use Rattle.tensor_kernels.proofs.Congruence.{same-add, wrap-wrap}
use Rattle.tensor_kernels.proofs.PairTotals.{pair-split}
use Rattle.tensor_dots.proofs.ProductSums.{sum_to-ext, sum_to-append}
use Rattle.tensor_kernels.proofs.Quadrants.{factors_quadrant, quadrant-total}
use Rattle.tensor_kernels.proofs.Strassen.{before-quadrant, quadrant-add}
use Rattle.tensor_kernels.proofs.tiling.Tiled.add_products.Goals as goal

-- a row of the block's cells is one of the operand's
block-row : (t : Tiled) (cells values : List ℤ) (starts all offsets : List ℕ) (c b x e : ℕ)
    → values ≡ cow_slice_items t.first.values → all ≡ t.first.starts.items
    → offsets ≡ t.first.offsets.items → starts ≡ take (e - b * 32) (drop (b * 32) all)
    → e ≡ min (b * 32 + 32) t.rows → x < t.rows → x / 32 ≡ b
    → ((u q : ℕ) → u < length starts → q < 128 → cell_of 16 cells 128 u q
    ≡ value_in values (slice_index starts u + slice_index offsets (c * 128 + q)))
    → (q : ℕ) → q < 128
    → cell_of 16 cells 128 (x / 16 % 2 * 16 + x % 16) q ≡ row_value t.first x (c * 128 + q)
block-row t cells values starts all offsets c b x e is_values is_all is_offsets is_starts is_end
    below at has q few =
    let u = x / 16 % 2 * 16 + x % 16 in
    let is : b * 32 + u ≡ x = omega (arith, at) in
    let rows : length all ≡ t.rows = ap length is_all ∙ sym t.same in
    let count : length starts ≡ e - b * 32 = omega (
      arith,
      ap length is_starts,
      length-take (e - b * 32) (drop (b * 32) all),
      length-drop (b * 32) all,
      rows,
      is_end,
    ) in
    let row : u < length starts = omega (arith, count, is, below, is_end) in
    let start : slice_index starts u ≡ slice_index t.first.starts.items x =
    ap (λ l. slice_index l u) is_starts
    ∙ get_or-between all (b * 32) e u 0 (omega (arith, count, row))
    ∙ ap (slice_index all) is ∙ ap (λ l. slice_index l x) is_all in
    has u q row few
    ∙ ap (λ s. value_in values (s + slice_index offsets (c * 128 + q))) start
    ∙ ap (λ l. value_in values (slice_index t.first.starts.items x
    + slice_index l (c * 128 + q))) is_offsets
    ∙ ap (λ l. value_in l (slice_index t.first.starts.items x
    + slice_index t.first.offsets.items (c * 128 + q))) is_values

-- cells have the values of rows in chunk c
abbrev AreOf : List ℤ → List ℤ → List ℕ → List ℕ → ℕ → Type 0
AreOf cells values starts offsets c = (u q : ℕ) → u < length starts → q < 128
    → cell_of 16 cells 128 u q
    ≡ value_in values (slice_index starts u + slice_index offsets (c * 128 + q))

-- what the products of a pair make up at a place is the sum of the products of both chunks
pair-there : (t : Tiled) (rows : Quarters) (of_rows of_columns : Factors) (values : List ℤ)
    (starts all offsets : List ℕ) (column columns half pair b e l : ℕ)
    → (of_band : IsOfColumns t column columns pair of_columns)
    → half ≡ of_band.quarters.half.panels → columns ≤ 2 * half
    → rows.half.height ≡ 16 → rows.half.panels ≡ 1 → AreFirstFactors rows of_rows
    → values ≡ cow_slice_items t.first.values → all ≡ t.first.starts.items
    → offsets ≡ t.first.offsets.items → starts ≡ take (e - b * 32) (drop (b * 32) all)
    → e ≡ min (b * 32 + 32) t.rows → AreOf rows.earlier.items values starts offsets (2 * pair)
    → AreOf rows.later.items values starts offsets (2 * pair + 1)
    → 0 < t.rows → l < columns * t.rows → l % t.rows / 32 ≡ b
    → wrap (factors_quadrant of_rows of_columns (l % t.rows / 16 % 2) (l / t.rows / half)
    (16 * (l / t.rows % half) + l % t.rows % 16))
    ≡ wrap (pair_total t pair (column * t.rows + l))
pair-there t rows of_rows of_columns values starts all offsets a columns n pair b e l of_band is_half
    covers height panels firsts is_values is_all is_offsets is_starts is_end earlier later some within
    at =
    let m = t.rows in
    let p = a * m + l in
    let x = l % m in
    let y = l / m in
    let row : x ≡ p % m = sym (mul-add-mod_self_right a m l) in
    let column : a + y ≡ p / m = sym (mul-add-div_right some a l) in
    let few : y < columns = div_below l m columns some within in
    let both : y < 2 * n = omega (arith, few, covers) in
    let some_half : 0 < n = omega (arith, both) in
    let s = y / n in
    let j = y % n in
    let r = x / 16 % 2 in
    let u = x % 16 in
    let below : x < m = mod_below l m some in
    let q' = of_band.quarters in
    let is_row : x ≡ p % row_count t.first = row ∙ ap (λ m. p % m) t.same in
    let is_column : a + y ≡ p / row_count t.first = column ∙ ap (λ m. p / m) t.same in
    let turn : s * n + j ≡ y = div-add-mod' y n in
    let of_column = λ (c : ℕ) (cells : List ℤ) (has : HasColumns t a columns cells c) (q : ℕ)
    (low : q < 128).
    ap (λ y. cell_of 1 cells 128 y q) turn ∙ has y q few low
    ∙ ap (λ y. row_value t.second y (c * 128 + q)) is_column in
    let of_row = λ (c : ℕ) (cells : List ℤ) (has : AreOf cells values starts offsets c) (q : ℕ)
    (low : q < 128).
    block-row t cells values starts all offsets c b x e is_values is_all is_offsets is_starts is_end
    below at has q low
    ∙ ap (λ x. row_value t.first x (c * 128 + q)) is_row in
    quadrant-total rows q' of_rows of_columns n j u height panels of_band.single (sym is_half)
    (mod_below x 16 (omega arith)) (mod_below y n some_half) firsts of_band.factors r s
    (mod_below (x / 16) 2 (omega arith)) (div_below y n 2 some_half both)
    ∙ ap wrap
    (pair-split t pair p _ _ _ _
    (of_row (2 * pair) rows.earlier.items earlier)
    (of_column (2 * pair) q'.earlier.items of_band.earlier)
    (of_row (2 * pair + 1) rows.later.items later)
    (of_column (2 * pair + 1) q'.later.items of_band.later))

-- what stood there, and what the factors' products make up
quadrant-more : (pair n k r s : ℕ) (a b : Factors) (old new : Products) → k < 16 * n
    → AreAdded pair a b n old new → wrap (quadrant_value new r s k)
    ≡ wrap (before pair (quadrant_value old r s k) +ℤ factors_quadrant a b r s k)
quadrant-more pair n k r s a b old new below added =
    quadrant-add (value_in new.m1.items k) (value_in new.m2.items k) (value_in new.m3.items k) (value_in new.m4.items k) (value_in new.m5.items k) (value_in new.m6.items k) (value_in new.m7.items k)
    (before pair (value_in old.m1.items k)) (before pair (value_in old.m2.items k)) (before pair (value_in old.m3.items k)) (before pair (value_in old.m4.items k)) (before pair (value_in old.m5.items k)) (before pair (value_in old.m6.items k)) (before pair (value_in old.m7.items k))
    (product_sum a.m1 b.m1 k) (product_sum a.m2 b.m2 k) (product_sum a.m3 b.m3 k) (product_sum a.m4 b.m4 k) (product_sum a.m5 b.m5 k) (product_sum a.m6 b.m6 k) (product_sum a.m7 b.m7 k)
    (ap wrap (added.m1.each k below) ∙ wrap-wrap _) (ap wrap (added.m2.each k below) ∙ wrap-wrap _) (ap wrap (added.m3.each k below) ∙ wrap-wrap _) (ap wrap (added.m4.each k below) ∙ wrap-wrap _) (ap wrap (added.m5.each k below) ∙ wrap-wrap _) (ap wrap (added.m6.each k below) ∙ wrap-wrap _) (ap wrap (added.m7.each k below) ∙ wrap-wrap _) r s
    ∙ ap (λ v. wrap (v +ℤ factors_quadrant a b r s k))
    (before-quadrant pair r s (value_in old.m1.items k) (value_in old.m2.items k) (value_in old.m3.items k) (value_in old.m4.items k) (value_in old.m5.items k) (value_in old.m6.items k) (value_in old.m7.items k))

-- the sum of one pair more
one-more : (t : Tiled) (group i p : ℕ)
    → gathered_total t group i p +ℤ pair_total t (group * 2 + i) p
    ≡ gathered_total t group (i + 1) p
one-more t group i p =
    let at = product_at t.first t.second p in
    let F : ℕ → ℤ = λ q. at (group * 512 + q) in
    let more : pair_total t (group * 2 + i) p ≡ sum_to (λ q. F (i * 256 + q)) 256 =
    sum_to-ext _ _ 256
    (λ q below.
    let there : (group * 2 + i) * 256 + q ≡ group * 512 + (i * 256 + q) = omega arith in
    ap at there) in
    let long : i * 256 + 256 ≡ (i + 1) * 256 = omega arith in
    ap (λ s. sum_to F (i * 256) +ℤ s) more ∙ sym (sum_to-append F (i * 256) 256)
    ∙ ap (sum_to F) long

pub returns-clause-each : goal.returns-clause-each
returns-clause-each c l within at =
    let t = c.args.self.now in
    let band = c.args.band.now in
    let m = t.rows in
    let n = band.half in
    let i = c.args.i in
    let pair = band.group * 2 + i in
    let some : 0 < m = omega (arith, c.requires.block) in
    let p = band.place / m * m + l in
    let old = c.args.products.now in
    let new = c.add.new.self in
    let factors = c.in_ok-factors.factors in
    let of_columns = c.index-band-i.result in
    let is_of = c.requires.band.factors i of_columns c.requires.pair (sym c.index-band-i.is) in
    let few : l / m < band.columns = div_below l m band.columns some within in
    let covers : band.columns ≤ 2 * n = omega (arith, c.requires.band.half) in
    let both : l / m < 2 * n = omega (arith, few, covers) in
    let some_half : 0 < n = omega (arith, both) in
    let r = l % m / 16 % 2 in
    let s = l / m / n in
    let k = 16 * (l / m % n) + l % m % 16 in
    let here : k < 16 * n =
    omega (arith, mod_below (l / m) n some_half, mod_below (l % m) 16 (omega arith)) in
    let half = c.in_ok-quarters.ensures.half in
    ap wrap (before-later (i + 1) (sum_at m n new l) (omega arith))
    ∙ quadrant-more i n k r s factors of_columns old new here
    (subst (λ f. AreAdded i factors f n old new) (sym c.index-band-i.is) c.add.ensures)
    ∙ same-add (before i (sum_at m n old l)) (gathered_total t band.group i p)
    (factors_quadrant factors of_columns r s k) (pair_total t pair p)
    (c.requires.so_far l within at)
    (pair-there t c.in_ok-quarters.quarters factors of_columns c.as_slice.result.now _
    c.as_slice-2.result.now c.as_slice-3.result.now (band.place / m) band.columns n pair c.args.b
    c.min.result l is_of (c.requires.band.half ∙ sym is_of.half) covers (ap (λ half. half.height) half) (ap (λ half. half.panels) half)
    c.in_ok-factors.ensures c.as_slice.ensures.value c.as_slice-2.ensures.value
    c.as_slice-3.ensures.value refl c.min.ensures c.in_ok-quarters.ensures.earlier
    c.in_ok-quarters.ensures.later some within at)
    ∙ ap wrap (one-more t band.group i p)
