-- Sums of products chunk by chunk.
use Rattle.std.proofs.Common.{◌≡◌, ℕ, zero, suc, ◌+◌, ◌-◌, ◌*◌, ◌<◌, ◌≤◌, ℤ, ◌+ℤ◌}
use Rattle.std.proofs.Common.{◌*ℤ◌, List, length, drop, slice_index, refl, ap, sym, ◌∙◌, arith}
use Rattle.std.proofs.Common.{take, length-drop, length-take}
use Rattle.std.proofs.lemmas.Int.{int_wrap-add_left}
use Rattle.std.proofs.lemmas.List.{length-take-le}
use Rattle.std.proofs.lemmas.List.Edits.{get_or-between}
use Rattle.std.specs.Cow.{cow_slice_items}
use Rattle.std.specs.Int.{w64}
use Rattle.tensor_shape.specs.Wrap.{wrap}
use Rattle.tensor_kernels.specs.private.Cells.{HoldsRows}
use Rattle.tensor_kernels.specs.Chunks.{chunk_start, chunk, before}
use Rattle.tensor_dots.specs.Inside.{AreInside}
use Rattle.tensor_kernels.specs.Panels.{cell_of}
use Rattle.tensor_values.specs.Values.{value_in}
use Rattle.tensor_dots.specs.Products.{dot, sum_to}
use Rattle.tensor_dots.specs.Rows.{row_count, row_length, row_value}
use Rattle.tensor_dots.specs.declared.rows.Rows.{Rows}
use Rattle.tensor_kernels.proofs.PanelPlaces.{are_cells-row}
use Rattle.tensor_dots.proofs.Parts.{get_or-part}
use Rattle.tensor_dots.proofs.ProductSums.{sum_to-ext, sum_to-append}

-- m terms more, where the sum so far was taken modulo 2^64
pub wrap-chunk : (f : ℕ → ℤ) (a m b : ℕ) (v so_far more : ℤ) → a + m ≡ b
    → so_far ≡ wrap (sum_to f a) → more ≡ sum_to (λ q. f (a + q)) m → v ≡ wrap (so_far +ℤ more)
    → v ≡ wrap (sum_to f b)
wrap-chunk f a m b v so_far more end is_far is_more is =
    is ∙ ap (λ z. wrap (z +ℤ more)) is_far ∙ int_wrap-add_left w64 (sum_to f a) more
    ∙ ap (λ z. wrap (sum_to f a +ℤ z)) is_more ∙ ap wrap (sym (sum_to-append f a m))
    ∙ ap (λ n. wrap (sum_to f n)) end

-- from the second chunk on a sum is added to what stands there
pub before-later : (c : ℕ) (v : ℤ) → 0 < c → before c v ≡ v
before-later zero v some = absurd (omega (arith, some))
before-later (suc c) v some = refl

-- twice as many chunks are none where these are none
pub before-twice : (c : ℕ) (v : ℤ) → before (2 * c) v ≡ before c v
before-twice zero v = refl
before-twice (suc c) v = before-later (2 * suc c) v (omega arith)

-- a chunk's offsets
pub length-chunk : (offsets : List ℕ) (c : ℕ)
    → chunk_start (length offsets) c + length (chunk offsets c)
    ≡ chunk_start (length offsets) (c + 1)
length-chunk offsets c =
    let a = chunk_start (length offsets) c in
    let b = chunk_start (length offsets) (c + 1) in
    let order : a ≤ b = omega arith in
    let last : b ≤ length offsets = omega arith in
    let long : length (drop a offsets) ≡ length offsets - a = length-drop a offsets in
    let count : length (chunk offsets c) ≡ b - a =
    length-take-le (b - a) (drop a offsets) (omega (arith, long)) in
    omega (arith, count)

pub slice_index-chunk : (offsets : List ℕ) (c q : ℕ) → q < length (chunk offsets c)
    → slice_index (chunk offsets c) q ≡ slice_index offsets (chunk_start (length offsets) c + q)
slice_index-chunk offsets c q below =
    get_or-between offsets (chunk_start (length offsets) c) (chunk_start (length offsets) (c + 1)) q
    0 (omega (arith, length-chunk offsets c))

-- lead to values where all do
pub are_inside-chunk : (values : List ℤ) (rows offsets : List ℕ) (c : ℕ)
    → AreInside values rows offsets → AreInside values rows (chunk offsets c)
are_inside-chunk values rows offsets c inside x q row value =
    let last : chunk_start (length offsets) (c + 1) ≤ length offsets = omega arith in
    rw (slice_index-chunk offsets c q value)
    (inside x (chunk_start (length offsets) c + q) row
    (omega (arith, length-chunk offsets c, last)))

-- also from some of the rows
pub are_inside-part : (values : List ℤ) (rows offsets : List ℕ) (a n : ℕ)
    → AreInside values rows offsets → AreInside values (take (a + n - a) (drop a rows)) offsets
are_inside-part values rows offsets a n inside x q row value =
    rw (get_or-part 0 a n rows x row)
    (inside (a + x) q
    (omega (arith, row, length-take (a + n - a) (drop a rows), length-drop a rows)) value)

-- a value of a row of a chunk's panels
row-chunk : (h : ℕ) (rows : Rows) (cells : List ℤ) (starts : List ℕ) (c x row n q : ℕ) → 0 < h
    → HoldsRows h cells (cow_slice_items rows.values) starts (chunk rows.offsets.items c)
    → x < length starts → slice_index starts x ≡ slice_index rows.starts.items row
    → n ≡ length (chunk rows.offsets.items c) → q < n
    → cell_of h cells n x q ≡ row_value rows row (chunk_start (row_length rows) c + q)
row-chunk h rows cells starts c x row n q some holds below same is within =
    let values = cow_slice_items rows.values in
    let offsets = chunk rows.offsets.items c in
    let here : q < length offsets = omega (arith, is) in
    ap (λ n. cell_of h cells n x q) is
    ∙ are_cells-row h cells values starts offsets x q some holds.0 holds.1 below here
    ∙ ap (λ s. value_in values (s + slice_index offsets q)) same
    ∙ ap (λ o. value_in values (slice_index rows.starts.items row + o))
    (slice_index-chunk rows.offsets.items c q here)

-- the products of a chunk's panels, the second of columns, are those of the rows that belong to it
pub dot-chunk : (h : ℕ) (first second : Rows) (cells cells' : List ℤ) (starts : List ℕ)
    (c x y column n : ℕ) → 0 < h → row_length first ≡ row_length second
    → n ≡ length (chunk second.offsets.items c)
    → HoldsRows h cells (cow_slice_items first.values) first.starts.items
    (chunk first.offsets.items c)
    → HoldsRows 1 cells' (cow_slice_items second.values) starts (chunk second.offsets.items c)
    → x < row_count first → y < length starts
    → slice_index starts y ≡ slice_index second.starts.items column
    → dot (cell_of h cells n x) (cell_of 1 cells' n y) n
    ≡ sum_to (λ q. row_value first x (chunk_start (row_length first) c + q)
    *ℤ row_value second column (chunk_start (row_length first) c + q)) n
dot-chunk h first second cells cells' starts c x y column n some same is holds holds' row few
    is_column =
    let count : n ≡ length (chunk first.offsets.items c) =
    omega (
      arith,
      length-chunk first.offsets.items c,
      length-chunk second.offsets.items c,
      same,
      is,
    ) in
    sum_to-ext _ _ n
    (λ q below.
    let left = row-chunk h first cells first.starts.items c x x n q some holds row refl count
    below in
    let right = row-chunk 1 second cells' starts c y column n q (omega arith) holds' few is_column
    is below
    ∙ ap (λ n. row_value second column (chunk_start n c + q)) (sym same) in
    cc (left, right))
