use Rattle.std.proofs.Common.{◌≡◌, ℕ, ◌+◌, ◌*◌, ◌-◌, ◌<◌, ◌≤◌, ℤ, List, length, take, drop}
use Rattle.std.proofs.Common.{slice_index, ap, ◌∙◌, arith}
use Rattle.std.specs.Cow.{cow_slice_items}
use Rattle.tensor_kernels.specs.Panels.{cell_of}
use Rattle.tensor_dots.specs.Rows.{row_count, row_value}
use Rattle.tensor_values.specs.Values.{value_in}
use Rattle.tensor_kernels.specs.declared.tiling.Tiled.{Tiled}
use Rattle.tensor_kernels.proofs.Columns.{length-columns}
use Rattle.tensor_dots.proofs.Parts.{get_or-part}
use Rattle.tensor_kernels.proofs.tiling.Tiled.factors_at.Goals as goal

-- a column of the band's cells is one of the operand's
band-column : (t : Tiled) (cells values : List ℤ) (all offsets : List ℕ) (c a n y q : ℕ)
    → values ≡ cow_slice_items t.second.values → all ≡ t.second.starts.items
    → offsets ≡ t.second.offsets.items → a + n ≤ row_count t.second → y < n → q < 128
    → ((u q : ℕ) → u < length (take (a + n - a) (drop a all)) → q < 128
    → cell_of 1 cells 128 u q ≡ value_in values
    (slice_index (take (a + n - a) (drop a all)) u + slice_index offsets (c * 128 + q)))
    → cell_of 1 cells 128 y q ≡ row_value t.second (a + y) (c * 128 + q)
band-column t cells values all offsets c a n y q is_values is_all is_offsets there few low has =
    let long = length-columns t all a n is_all there in
    let column : y < length (take (a + n - a) (drop a all)) = omega (arith, long, few) in
    has y q column low
    ∙ ap (λ s. value_in values (s + slice_index offsets (c * 128 + q)))
    (get_or-part 0 a n all y column ∙ ap (λ l. slice_index l (a + y)) is_all)
    ∙ ap (λ l. value_in values (slice_index t.second.starts.items (a + y)
    + slice_index l (c * 128 + q))) is_offsets
    ∙ ap (λ l. value_in l (slice_index t.second.starts.items (a + y)
    + slice_index t.second.offsets.items (c * 128 + q))) is_values

pub returns : goal.returns
returns c =
    let t = c.args.self.now in
    let first = c.args.column in
    let columns = c.args.columns in
    let half = c.in_ok-quarters.ensures.half in
    let held = take (first + columns - first) (drop first c.as_slice-2.result.now) in
    let column = λ (i : ℕ) (cells : List ℤ)
    (has : (u q : ℕ) → u < length held → q < 128 → cell_of 1 cells 128 u q
    ≡ value_in c.as_slice.result.now
    (slice_index held u + slice_index c.as_slice-3.result.now (i * 128 + q))) (y q : ℕ)
    (in_band : y < columns) (low : q < 128).
    band-column t cells c.as_slice.result.now c.as_slice-2.result.now c.as_slice-3.result.now i
    first columns y q c.as_slice.ensures.value c.as_slice-2.ensures.value
    c.as_slice-3.ensures.value c.requires.there in_band low has in
    record {
      quarters = c.in_ok-quarters.quarters;
      single = ap (λ half. half.height) half;
      half = ap (λ half. half.panels) half ∙ c.div_ceil.ensures;
      earlier = column (2 * c.args.pair) c.in_ok-quarters.quarters.earlier.items
          c.in_ok-quarters.ensures.earlier;
      later = column (2 * c.args.pair + 1) c.in_ok-quarters.quarters.later.items
          c.in_ok-quarters.ensures.later;
      factors = c.in_ok-factors.ensures;
    }
