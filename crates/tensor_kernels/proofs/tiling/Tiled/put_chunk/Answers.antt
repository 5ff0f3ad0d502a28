use Rattle.std.proofs.Common.{◌≡◌, ℕ, ◌+◌, ◌*◌, ◌-◌, ◌/◌, ◌%◌, ◌<◌, ◌+ℤ◌, ◌*ℤ◌, ℤ, List, length}
use Rattle.std.proofs.Common.{take, drop, ap, sym, subst, ◌∙◌, arith}
use Rattle.std.proofs.Common.{slice_index}
use Rattle.std.proofs.Math.Nat.{mul-add-mod_self_right, mul-add-div_right}
use Rattle.std.specs.Int.{div_ceil}
use Rattle.std.specs.Cow.{cow_slice_items}
use Rattle.tensor_kernels.specs.private.Cells.{height_of, AreReady, HoldsRows}
use Rattle.tensor_kernels.specs.Chunks.{before, chunk, chunk_start}
use Rattle.tensor_shape.specs.Wrap.{wrap}
use Rattle.tensor_dots.specs.Inside.{AreInside}
use Rattle.tensor_kernels.specs.Panels.{cell_of}
use Rattle.tensor_values.specs.Values.{value_in}
use Rattle.tensor_dots.specs.Products.{dot, sum_to}
use Rattle.tensor_dots.specs.Rows.{row_count, row_length, row_value}
use Rattle.tensor_kernels.specs.Tiling.{product_at, chunk_total}
use Rattle.tensor_dots.specs.declared.rows.Rows.{Rows}
use Rattle.tensor_kernels.proofs.ChunkSums.{length-chunk}
use Rattle.tensor_kernels.proofs.ChunkSums.{are_inside-chunk, are_inside-part, dot-chunk}
use Rattle.tensor_kernels.proofs.Columns.{length-columns, columns-few, place-columns}
use Rattle.tensor_kernels.proofs.Heights.{height-some}
use Rattle.tensor_dots.proofs.Parts.{get_or-part, line-place}
use Rattle.tensor_kernels.proofs.TilePlaces.{part-of}
use Rattle.tensor_kernels.proofs.tiling.Tiled.put_chunk.Goals as goal

pub slice_bounds-part-end : goal.slice_bounds-part-end
slice_bounds-part-end c =
    let t = c.args.self.now in
    let left = place-columns t c.args.place (length c.args.out.now) _ (omega arith)
    c.div_ceil-columns.ensures c.requires.within in
    omega (arith, left, ap length c.as_slice.ensures.value)

-- rows that lie within a list still do in a chunk of their offsets
inside-of : (values : List ℤ) (starts all offsets : List ℕ) (rows : Rows) (a n c : ℕ)
    → values ≡ cow_slice_items rows.values → starts ≡ rows.starts.items
    → all ≡ rows.offsets.items → offsets ≡ chunk all c
    → AreInside (cow_slice_items rows.values) rows.starts.items rows.offsets.items
    → AreInside values (take (a + n - a) (drop a starts)) offsets
inside-of values starts all offsets rows a n c is_values is_starts is_all is_offsets inside =
    rw (is_values, is_starts, is_offsets, is_all)
    (are_inside-part (cow_slice_items rows.values) rows.starts.items (chunk rows.offsets.items c) a
    n
    (are_inside-chunk (cow_slice_items rows.values) rows.starts.items rows.offsets.items c inside))

pub invariant_of-part-clause-inside : goal.invariant_of-part-clause-inside
invariant_of-part-clause-inside c =
    let t = c.args.self.now in
    inside-of _ _ _ _ t.second (c.args.place / t.rows) c.div_ceil-columns.result c.args.c
    c.as_slice.ensures.value c.as_slice-2.ensures.value c.deref.ensures.value c.chunk_of.ensures
    t.second.inside

pub put-requires-clause-packed : goal.put-requires-clause-packed
put-requires-clause-packed c =
    let t = c.args.self.now in
    let i = c.args.c in
    let m = t.rows in
    let some : 0 < m = omega arith in
    let a = c.args.place / m in
    let len = c.args.place % m + length c.args.out.now in
    let few = columns-few m len _ c.div_ceil-columns.ensures some c.requires.inside in
    let left = place-columns t c.args.place (length c.args.out.now) _ some
    c.div_ceil-columns.ensures c.requires.within in
    let held = c.requires.panels in
    let n = length c.chunk_of.result.now in
    let part : c.chunk_of.result.now ≡ chunk t.second.offsets.items i =
    c.chunk_of.ensures ∙ ap (λ offsets. chunk offsets i) c.deref.ensures.value in
    let same : length (chunk t.first.offsets.items i) ≡ n =
    omega (
      arith,
      ap length part,
      length-chunk t.first.offsets.items i,
      length-chunk t.second.offsets.items i,
      t.lengths,
    ) in
    let starts = c.as_slice-2.result.now in
    let columns = c.div_ceil-columns.result in
    let held_columns = take (a + columns - a) (drop a starts) in
    let count : div_ceil (length held_columns) 1 ≡ columns =
    omega (arith, length-columns t starts a columns c.as_slice-2.ensures.value left) in
    record {
      few_rows = omega (arith, t.same);
      few_columns = few;
      short = omega (arith, ap length part, length-chunk t.second.offsets.items i);
      first = rw t.same (rw (← same) (omega (arith, held.0.0)));
      second = omega (arith, c.in_ok-band.ensures.rows.0, ap (λ m. m * n) count);
      ready = rw t.same (rw (← same) held.1);
      other = subst (λ m. AreReady t.packing.small 1 m n c.in_ok-band.band) count
          c.in_ok-band.ensures.ready;
    }

-- packed rows, said of the lists that they are parts of
holds-of : (cells values : List ℤ) (starts offsets : List ℕ) (rows : Rows) (c : ℕ)
    → values ≡ cow_slice_items rows.values → offsets ≡ chunk rows.offsets.items c
    → HoldsRows 1 cells values starts offsets
    → HoldsRows 1 cells (cow_slice_items rows.values) starts (chunk rows.offsets.items c)
holds-of cells values starts offsets rows c is_values is_offsets holds =
    subst (λ values. HoldsRows 1 cells values starts (chunk rows.offsets.items c)) is_values
    (subst (λ offsets. HoldsRows 1 cells values starts offsets) is_offsets holds)

pub returns-clause-each : goal.returns-clause-each
returns-clause-each c k within =
    let t = c.args.self.now in
    let h = height_of t.packing.height in
    let i = c.args.c in
    let m = t.rows in
    let some : 0 < m = omega arith in
    let a = c.args.place / m in
    let l = c.args.place % m + k in
    let p = c.args.place + k in
    let here : a * m + l ≡ p = line-place m c.args.place k in
    let start = chunk_start (row_length t.first) i in
    let part : c.chunk_of.result.now ≡ chunk t.second.offsets.items i =
    c.chunk_of.ensures ∙ ap (λ offsets. chunk offsets i) c.deref.ensures.value in
    let n = length c.chunk_of.result.now in
    let same : n ≡ length (chunk t.first.offsets.items i) =
    omega (
      arith,
      ap length part,
      length-chunk t.first.offsets.items i,
      length-chunk t.second.offsets.items i,
      t.lengths,
    ) in
    let cells = c.args.first.now.cells.items in
    let cells' = c.in_ok-band.band.cells.items in
    let row : l % m < row_count t.first = omega (arith, t.same) in
    let columns = c.div_ceil-columns.result in
    let all = c.as_slice-2.result.now in
    let starts = take (a + columns - a) (drop a all) in
    let len = c.args.place % m + length c.args.out.now in
    let left = place-columns t c.args.place (length c.args.out.now) _ some
    c.div_ceil-columns.ensures c.requires.within in
    let count = length-columns t all a columns c.as_slice-2.ensures.value left in
    let column : l / m < length starts =
    omega (arith, count, c.div_ceil-columns.ensures, part-of m len l some (omega arith)) in
    let start_of = get_or-part 0 a columns all (l / m) column
    ∙ ap (λ all. slice_index all (a + l / m)) c.as_slice-2.ensures.value in
    let is_row : l % m ≡ p % row_count t.first =
    sym (mul-add-mod_self_right a m l) ∙ ap (λ p. p % m) here ∙ ap (λ m. p % m) t.same in
    let is_column : a + l / m ≡ p / row_count t.first =
    sym (mul-add-div_right some a l) ∙ ap (λ p. p / m) here ∙ ap (λ m. p / m) t.same in
    let total : dot (cell_of h cells n (l % m)) (cell_of 1 cells' n (l / m)) n
    ≡ chunk_total t i p =
    dot-chunk h t.first t.second cells cells' starts i (l % m) (l / m) (a + l / m) n
    (height-some t.packing.height) t.lengths (ap length part) c.requires.panels.0
    (holds-of cells' _ starts _ t.second i c.as_slice.ensures.value part
    c.in_ok-band.ensures.rows)
    row column start_of
    ∙ ap (λ x. sum_to (λ q. row_value t.first x (start + q)
    *ℤ row_value t.second (a + l / m) (start + q)) n) is_row
    ∙ ap (λ y. sum_to (λ q. row_value t.first (p % row_count t.first) (start + q)
    *ℤ row_value t.second y (start + q)) n) is_column
    ∙ ap (λ n. sum_to (λ q. product_at t.first t.second p (start + q)) n) same in
    c.put.ensures.each k within
    ∙ ap (λ s. wrap (before i (value_in c.args.out.now k) +ℤ s)) total
