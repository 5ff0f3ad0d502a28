-- Index lists and the lines along an axis.
use Rattle.std.proofs.Common.{◌≡◌, ℕ, ℤ, ◌+◌, ◌*◌, ◌/◌, ◌%◌, ◌<◌, List, [], ◌∷◌}
use Rattle.std.proofs.Common.{◌++◌, length, map, get_or, take, drop, slice_index, remove}
use Rattle.std.proofs.Common.{refl, ap, sym, subst, ◌∙◌, arith, add-one, zero-add}
use Rattle.std.proofs.Common.{length-take-le, append_assoc, append-nil}
use Rattle.std.specs.List.{range_with_len}
use Rattle.std.proofs.lemmas.Nat.{mul-add-lt}
use Rattle.std.proofs.Math.Nat.{add-mul-mod_self_left, add-mul-div_left, mod-eq_of_lt}
use Rattle.std.proofs.Math.Nat.{div-eq_of_lt, div-div-eq-div-mul}
use Rattle.std.proofs.Math.Seq.{drop-drop, get_or_at, split_at, append_snoc}
use Rattle.tensor_scans.specs.declared.lines.Lines.{Lines}
use Rattle.tensor_scans.specs.Places.{line_place, line_values, number_at, line_through}
use Rattle.tensor_shape.specs.Index.{size_of, IsIndexOf, place, index_of}
use Rattle.tensor_shape.proofs.Places.{IsIndexOf-index_of, place-index_of}
use Rattle.tensor_terms.specs.Along.{with_number, line, replaced_dims}
use Rattle.tensor_terms.specs.AxisLines.{AreLinesAlong}
use Rattle.tensor_terms.proofs.Splits.{size_of-append, index_of-append, length-index_of}
use Rattle.tensor_terms.proofs.TwoParts.{in_parts, index_of-joined}
use Rattle.tensor_values.proofs.Runs.{map-shifted}

-- the first number of an index list, and the others
index_of-more : (d : ℕ) (ds : List ℕ) (k q : ℕ) → k < d
    → index_of (d ∷ ds) (k + d * q) ≡ k ∷ index_of ds q
index_of-more d ds k q below =
    let some : 0 < d = omega arith in
    let first : (k + d * q) % d ≡ k = add-mul-mod_self_left k d q ∙ mod-eq_of_lt below in
    let rest : (k + d * q) / d ≡ q =
    add-mul-div_left k q some ∙ ap (λ n. n + q) (div-eq_of_lt below) ∙ zero-add q in
    rw (first, rest) refl

-- how many elements dims in three parts have
size_of-three : (before es behind : List ℕ)
    → size_of (before ++ es ++ behind) ≡ size_of before * size_of es * size_of behind
size_of-three before es behind =
    size_of-append (before ++ es) behind
    ∙ ap (λ n. n * size_of behind) (size_of-append before es)

-- the parts of the index list of a place of dims in three parts
record InThree (before es behind : List ℕ) (p : ℕ) : Type 0 where
  inner : p % size_of before < size_of before
  block : p / (size_of before * size_of es) < size_of behind
  number : p / size_of before % size_of es < size_of es
  first : take (length before) (index_of (before ++ es ++ behind) p)
      ≡ index_of before (p % size_of before)
  middle : take (length es) (drop (length before) (index_of (before ++ es ++ behind) p))
      ≡ index_of es (p / size_of before % size_of es)
  last : drop (length before + length es) (index_of (before ++ es ++ behind) p)
      ≡ index_of behind (p / (size_of before * size_of es))

-- a place within the dims has all of them
in_three : (before es behind : List ℕ) (p : ℕ) → p < size_of (before ++ es ++ behind)
    → InThree before es behind p
in_three before es behind p below =
    let s : ℕ = size_of before in
    let is : List ℕ = index_of (before ++ es ++ behind) p in
    let apart = append_assoc before es behind in
    let two = in_parts before (es ++ behind) p (subst (λ l. p < size_of l) apart below) in
    let first = ap (λ l. take (length before) (index_of l p)) apart ∙ two.first in
    let second = ap (λ l. drop (length before) (index_of l p)) apart ∙ two.second in
    let more = in_parts es behind (p / s) two.outer in
    let same : p / s / size_of es ≡ p / (s * size_of es) = div-div-eq-div-mul p s (size_of es) in
    record {
      inner = two.inner;
      block = subst (λ q. q < size_of behind) same more.outer;
      number = more.inner;
      first = first;
      middle = ap (take (length es)) second ∙ more.first;
      last = sym (drop-drop (length es) (length before) is)
          ∙ ap (drop (length es)) second ∙ more.second ∙ ap (index_of behind) same;
    }

-- dims with one more between two parts
module _ (before : List ℕ) (d : ℕ) (behind : List ℕ) where
  -- how many elements they have
  size_of-between : size_of (before ++ d ∷ behind) ≡ size_of before * d * size_of behind
  size_of-between =
      size_of-append before (d ∷ behind) ∙ regroup (size_of before) (size_of behind)
    where
      regroup : (a c : ℕ) → a * (d * c) ≡ a * d * c
      regroup a c = grind arith

  -- the number of an index list there
  number-between : (p : ℕ)
      → get_or (index_of (before ++ d ∷ behind) p) (length before) 0 ≡ p / size_of before % d
  number-between p =
      ap (λ l. get_or l (length before) 0) (index_of-append before (d ∷ behind) p)
      ∙ get_or_at (index_of before p) (p / size_of before % d) (index_of behind
      (p / size_of before / d)) 0 (length before) (length-index_of before p)

  module _ (j k q : ℕ) (inner : j < size_of before) (number : k < d) (block : q < size_of behind) where
    -- a place within the dims
    place-between : j + size_of before * (k + d * q) < size_of (before ++ d ∷ behind)
    place-between =
        let s : ℕ = size_of before in
        let c : ℕ = size_of behind in
        let one : q * d + k < d * c = mul-add-lt q d k c block number in
        let here : k + d * q < d * c = omega arith in
        let two : (k + d * q) * s + j < s * (d * c) =
        mul-add-lt (k + d * q) s j (d * c) here inner in
        omega (arith, size_of-append before (d ∷ behind))

    -- its index list has the three parts
    index_of-between : index_of (before ++ d ∷ behind) (j + size_of before * (k + d * q))
        ≡ index_of before j ++ k ∷ index_of behind q
    index_of-between =
        index_of-joined before (d ∷ behind) j (k + d * q) inner
        ∙ ap (λ l. index_of before j ++ l) (index_of-more d behind k q number)

-- an axis that is removed has nothing in its place
pub replaced-removed : (axis : ℕ) (ds : List ℕ) → replaced_dims axis [] ds ≡ remove ds axis
replaced-removed axis ds =
    ap (λ l. l ++ drop (axis + 1) ds) (append-nil (take axis ds))
    ∙ ap (λ n. take axis ds ++ drop n ds) (add-one axis)

module _ (axis : ℕ) (ds : List ℕ) (inside : axis < length ds) where
  -- dims are those before an axis, its own, and those behind
  whole : ds ≡ take axis ds ++ slice_index ds axis ∷ drop (axis + 1) ds
  whole =
      split_at ds axis 0 inside
      ∙ ap (λ n. take axis ds ++ slice_index ds axis ∷ drop n ds) (sym (add-one axis))

  -- an axis' own dimension in its place leaves the dims as they are
  pub replaced-same : replaced_dims axis (slice_index ds axis ∷ []) ds ≡ ds
  replaced-same =
      append_snoc (take axis ds) (slice_index ds axis) (drop (axis + 1) ds) ∙ sym whole

module _ (axis : ℕ) (ds : List ℕ) (lines : Lines) (inside : axis < length ds)
    (along : AreLinesAlong axis ds lines) where
  -- the lines have all values of the dims
  pub values-whole : size_of ds ≡ line_values lines lines.length
  values-whole =
      ap size_of (whole axis ds inside)
      ∙ size_of-between (take axis ds) (slice_index ds axis) (drop (axis + 1) ds)
      ∙ rw (along.stride, along.length, along.blocks) refl

  -- the number that the index list of a place has at the axis
  pub number-of : (p : ℕ) → slice_index (index_of ds p) axis ≡ number_at lines lines.length p
  number-of p =
      let before : List ℕ = take axis ds in
      let d : ℕ = slice_index ds axis in
      let behind : List ℕ = drop (axis + 1) ds in
      let at : length before ≡ axis = length-take-le axis ds (omega arith) in
      ap (λ l. slice_index (index_of l p) axis) (whole axis ds inside)
      ∙ ap (λ n. slice_index (index_of (before ++ d ∷ behind) p) n) (sym at)
      ∙ number-between before d behind p ∙ rw (along.stride, along.length) refl

module _ (axis : ℕ) (ds es : List ℕ) (lines : Lines) (inside : axis < length ds)
    (along : AreLinesAlong axis ds lines) where
  -- a result with other dims in the place of the axis has a line of as many values for each line
  pub values-replaced : size_of (replaced_dims axis es ds) ≡ line_values lines (size_of es)
  values-replaced =
      size_of-three (take axis ds) es (drop (axis + 1) ds) ∙ rw (along.stride, along.blocks) refl

  module _ (p : ℕ) (below : p < size_of (replaced_dims axis es ds)) where
    -- the index list of the place in its three parts
    parts : InThree (take axis ds) es (drop (axis + 1) ds) p
    parts = in_three (take axis ds) es (drop (axis + 1) ds) p below

    -- the number of axes before the axis
    behind_axes : length (take axis ds) ≡ axis
    behind_axes = length-take-le axis ds (omega arith)

    -- the numbers in the place of the axis are the index list of the number within the line
    pub numbers-index : index_of es (number_at lines (size_of es) p)
        ≡ take (length es) (drop axis (index_of (replaced_dims axis es ds) p))
    numbers-index =
        let is : List ℕ = index_of (replaced_dims axis es ds) p in
        rw along.stride
        (sym parts.middle ∙ ap (λ n. take (length es) (drop n is)) behind_axes)

    -- that number is below the width
    pub numbers-below : number_at lines (size_of es) p < size_of es
    numbers-below = rw along.stride parts.number

    module _ (k : ℕ) (number : k < lines.length) where
      -- a number within the line is below the dimension
      below_dimension : k < slice_index ds axis
      below_dimension = omega (arith, along.length)

      -- the place within the line is that of a value
      pub number-below : line_place lines (size_of es) p k < size_of ds
      number-below =
          let before : List ℕ = take axis ds in
          let d : ℕ = slice_index ds axis in
          let behind : List ℕ = drop (axis + 1) ds in
          let s : ℕ = size_of before in
          let q : ℕ = p / (s * size_of es) in
          rw (along.stride, along.length)
          (subst (λ l. p % s + s * (k + d * q) < size_of l) (sym (whole axis ds inside))
          (place-between before d behind (p % s) k q parts.inner below_dimension parts.block))

      -- with the number in the place of the others, the index list is that of this place
      pub number-list : with_number axis (length es) (index_of (replaced_dims axis es ds) p) k
          ≡ index_of ds (line_place lines (size_of es) p k)
      number-list =
          let is : List ℕ = index_of (replaced_dims axis es ds) p in
          let before : List ℕ = take axis ds in
          let d : ℕ = slice_index ds axis in
          let behind : List ℕ = drop (axis + 1) ds in
          let s : ℕ = size_of before in
          let q : ℕ = p / (s * size_of es) in
          ap (λ n. take n is ++ k ∷ drop (n + length es) is) (sym behind_axes)
          ∙ ap (λ l. l ++ k ∷ drop (length before + length es) is) parts.first
          ∙ ap (λ l. index_of before (p % s) ++ k ∷ l) parts.last
          ∙ sym (index_of-between before d behind (p % s) k q parts.inner below_dimension parts.block)
          ∙ ap (λ l. index_of l (p % s + s * (k + d * q))) (sym (whole axis ds inside))
          ∙ rw (along.stride, along.length) refl

      -- it is an index list of the dims
      pub number-index : IsIndexOf ds
          (with_number axis (length es) (index_of (replaced_dims axis es ds) p) k)
      number-index =
          subst (IsIndexOf ds) (sym number-list)
          (IsIndexOf-index_of ds (line_place lines (size_of es) p k) number-below)

      -- this place is its place
      pub number-place : place ds
          (with_number axis (length es) (index_of (replaced_dims axis es ds) p) k)
          ≡ line_place lines (size_of es) p k
      number-place =
          ap (place ds) number-list
          ∙ place-index_of ds (line_place lines (size_of es) p k) number-below

    -- what is read at that index list
    pub number-value : (f : List ℕ → ℤ) (k : ℕ) → k < lines.length
        → f (with_number axis (length es) (index_of (replaced_dims axis es ds) p) k)
        ≡ f (index_of ds (line_place lines (size_of es) p k))
    number-value f k number = ap f (number-list k number)

    -- the line that belongs to an index list goes through those places
    pub line-through : (f : List ℕ → ℤ)
        → line axis (length es) ds f (index_of (replaced_dims axis es ds) p)
        ≡ line_through lines (size_of es) (λ q. f (index_of ds q)) p
    line-through f =
        let is : List ℕ = index_of (replaced_dims axis es ds) p in
        let read : ℕ → ℤ = λ k. f (with_number axis (length es) is k) in
        ap (λ n. map read (range_with_len 0 n)) (sym along.length)
        ∙ map-shifted read (λ k. f (index_of ds (line_place lines (size_of es) p k))) 0 0 lines.length
        (λ k number. number-value f (0 + k) (omega arith))
