-- The cells of rows in a whole chunk of their products.
use Rattle.std.proofs.Common.{◌≡◌, ℕ, ◌+◌, ◌*◌, ◌-◌, ◌/◌, ◌<◌, ◌≤◌, ℤ, List, length, min, slice_index}
use Rattle.std.proofs.Common.{◌%◌, ap, sym, ◌∙◌, arith}
use Rattle.std.specs.Int.{div_ceil}
use Rattle.std.proofs.lemmas.Nat.{div-mul-add, mod-mul-add}
use Rattle.tensor_values.specs.Values.{value_in}
use Rattle.tensor_kernels.specs.Chunks.{chunk, chunk_start}
use Rattle.tensor_kernels.specs.Panels.{AreCells, cell_of}
use Rattle.tensor_kernels.proofs.ChunkSums.{length-chunk, slice_index-chunk}
use Rattle.tensor_kernels.proofs.PanelPlaces.{are_cells-row}

-- where a whole chunk begins, and how long it is
pub chunk_start-whole : (n c : ℕ) → c * 128 ≤ n → chunk_start n c ≡ c * 128
chunk_start-whole n c within = omega arith

pub length-whole : (offsets : List ℕ) (c : ℕ) → (c + 1) * 128 ≤ length offsets
    → length (chunk offsets c) ≡ 128
length-whole offsets c within =
    let first = chunk_start-whole (length offsets) c (omega arith) in
    let last = chunk_start-whole (length offsets) (c + 1) within in
    omega (arith, first, last, length-chunk offsets c)

-- a whole number of panels
pub div_ceil-whole : (panels h : ℕ) → 0 < h → div_ceil (panels * h) h ≡ panels
div_ceil-whole panels h some =
    let is : panels * h ≡ panels * h + 0 = omega arith in
    let quotient : panels * h / h ≡ panels = ap (λ k. k / h) is ∙ div-mul-add panels h 0 some in
    let rest : panels * h % h ≡ 0 = ap (λ k. k % h) is ∙ mod-mul-add panels h 0 some in
    omega (arith, quotient, rest)

-- the cells of padded rows are those of the rows that there are
pub has_chunk : (h : ℕ) (cells values : List ℤ) (rows starts offsets : List ℕ) (c panels : ℕ)
    → 0 < h → length starts ≡ panels * h → length rows ≤ length starts
    → ((x : ℕ) → x < length starts
    → slice_index starts x ≡ slice_index rows (min x (length rows - 1)))
    → (c + 1) * 128 ≤ length offsets
    → length cells ≡ div_ceil (length starts) h * (length (chunk offsets c) * h)
    → AreCells h cells values starts (chunk offsets c)
    → (x q : ℕ) → x < length rows → q < 128 → cell_of h cells 128 x q
    ≡ value_in values (slice_index rows x + slice_index offsets (c * 128 + q))
has_chunk h cells values rows starts offsets c panels some count more are within long cells_are x q
    row few =
    let part = chunk offsets c in
    let whole : length part ≡ 128 = length-whole offsets c within in
    let inside : x < length starts = omega arith in
    let here : q < length part = omega (arith, whole) in
    let last : min x (length rows - 1) ≡ x = omega arith in
    ap (λ n. cell_of h cells n x q) (sym whole)
    ∙ are_cells-row h cells values starts part x q some long cells_are inside here
    ∙ ap (λ s. value_in values (s + slice_index part q))
    (are x inside ∙ ap (slice_index rows) last)
    ∙ ap (λ o. value_in values (slice_index rows x + o))
    (slice_index-chunk offsets c q here
    ∙ ap (λ s. slice_index offsets (s + q))
    (chunk_start-whole (length offsets) c (omega arith)))
