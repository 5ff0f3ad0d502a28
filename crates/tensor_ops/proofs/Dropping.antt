-- The operand of a reduction as rows, runs of rows and offsets of runs.
use Rattle.std.proofs.Common.{◌≡◌, ℕ, ℤ, ◌+◌, ◌-◌, ◌*◌, ◌/◌, ◌%◌, ◌<◌, ◌≤◌, List, ◌++◌, length, map}
use Rattle.std.proofs.Common.{get_or, take, Bool, true, false, not}
use Rattle.std.proofs.Common.{ap, sym, subst, ◌∙◌, arith}
use Rattle.std.specs.List.{filter, range_with_len, fold}
use Rattle.std.proofs.lemmas.Nat.{div_below}
use Rattle.std.proofs.lemmas.Simd.{map-map}
use Rattle.std.proofs.lemmas.List.Elements.{filter-append}
use Rattle.tensor_shape.specs.Index.{size_of, IsIndexOf, place, index_of}
use Rattle.tensor_shape.specs.Legal.{bulk_of}
use Rattle.tensor_shape.proofs.Places.{IsIndexOf-index_of, place-below-size_of}
use Rattle.tensor_loops.specs.Folds.{folded, offset_at}
use Rattle.tensor_ops.specs.private.Starts.{start_at}
use Rattle.tensor_terms.specs.Movement.{is_among, scattered}
use Rattle.tensor_views.specs.Offsets.{offset_of}
use Rattle.tensor_values.specs.Values.{value_in}
use Rattle.tensor_terms.specs.Reduction.{are_axes, reduced}
use Rattle.tensor_values.specs.Combining.{unit, combine}
use Rattle.tensor_terms.specs.Merged.{among, others, dims_at, other_dims, merged}
use Rattle.tensor_values.specs.declared.reducer.Reducer.{Reducer}
use Rattle.tensor_loops.proofs.Folding.{folded-ext}
use Rattle.tensor_terms.proofs.OtherAxes.{are_axes-among, are_axes-others, others-among}
use Rattle.tensor_terms.proofs.OtherAxes.{are_axes-picked, filter-all, range_with_len-append}
use Rattle.tensor_terms.proofs.Splits.{among-split, others-split, are_axes-range, span-le}
use Rattle.tensor_terms.proofs.Splits.{size_of-dims_at-append}
use Rattle.tensor_views.proofs.OffsetRanges.{offset_of-append, offset_of-range}
use Rattle.tensor_terms.proofs.Splits.{dims_at-range}
use Rattle.tensor_values.proofs.Factors.{some_size}
use Rattle.tensor_views.proofs.MergedPlaces.{place-merged}
use Rattle.tensor_terms.proofs.Weaving.{IsIndexOf-merged}

swapped : (m n : ℕ) → m * n ≡ n * m
swapped m n = grind arith

-- the axes from one on that a reduction keeps, and those that it drops
abbrev pub kept_after : List ℕ → ℕ → ℕ → List ℕ
kept_after axes after rank =
    filter (λ k. not (is_among k axes)) (range_with_len after (rank - after))

abbrev pub dropped_after : List ℕ → ℕ → ℕ → List ℕ
dropped_after axes after rank = filter (λ k. is_among k axes) (range_with_len after (rank - after))

-- where a reduction reads: at the offset of the dropped part of an index list, and of the kept one
module _ (ds axes : List ℕ) where
  -- the place that a reduction reads
  abbrev pub place_dropped : ℕ → ℕ → ℕ
  place_dropped p q =
      place ds (merged (among axes (length ds)) ds (index_of (dims_at (among axes (length ds)) ds) q)
      (index_of (other_dims axes ds) p))

  same_others : dims_at (others (among axes (length ds)) (length ds)) ds ≡ other_dims axes ds
  same_others = ap (λ l. dims_at l ds) (others-among axes (length ds))

  module _ (p q : ℕ) (kept : p < size_of (other_dims axes ds))
      (in_dropped : q < size_of (dims_at (among axes (length ds)) ds)) where
    kept_index : IsIndexOf (dims_at (others (among axes (length ds)) (length ds)) ds)
        (index_of (other_dims axes ds) p)
    kept_index = subst (λ es. IsIndexOf es (index_of (other_dims axes ds) p)) (sym same_others)
        (IsIndexOf-index_of (other_dims axes ds) p kept)

    dropped_index : IsIndexOf (dims_at (among axes (length ds)) ds)
        (index_of (dims_at (among axes (length ds)) ds) q)
    dropped_index = IsIndexOf-index_of (dims_at (among axes (length ds)) ds) q in_dropped

    pub place_dropped-below : place_dropped p q < size_of ds
    place_dropped-below =
        place-below-size_of ds (merged (among axes (length ds)) ds
        (index_of (dims_at (among axes (length ds)) ds) q) (index_of (other_dims axes ds) p))
        (IsIndexOf-merged (among axes (length ds)) ds (are_axes-among axes (length ds))
        (index_of (dims_at (among axes (length ds)) ds) q)
        (index_of (other_dims axes ds) p) dropped_index kept_index)

    pub place_dropped-offsets : place_dropped p q ≡ offset_of
        (others axes (length ds)) ds p + offset_of (among axes (length ds)) ds q
    place_dropped-offsets =
        let whole = place-merged (among axes (length ds)) ds (are_axes-among axes (length ds))
        (index_of (dims_at (among axes (length ds)) ds) q)
        (index_of (other_dims axes ds) p) dropped_index in
        let same = ap (λ l. place ds (scattered l (index_of (other_dims axes ds) p)
        (map (λ d. 0) ds))) (others-among axes (length ds)) in
        omega (arith, whole, same)

-- kept axes that lie next to each other, and those after them
pub kept_after-split : (axes : List ℕ) (after further rank : ℕ) → after ≤ further → further ≤ rank
    → ((k : ℕ) → after ≤ k → k < further → is_among k axes ≡ false)
    → kept_after axes after rank
    ≡ range_with_len after (further - after) ++ kept_after axes further rank
kept_after-split axes after further rank order within kept =
    let test : ℕ → Bool = λ k. not (is_among k axes) in
    let n : ℕ = further - after in
    let ends : after + n ≡ further = omega arith in
    let long : n + (rank - further) ≡ rank - after = omega arith in
    let whole : range_with_len after (rank - after)
    ≡ range_with_len after n ++ range_with_len further (rank - further) =
    ap (range_with_len after) (sym long) ∙ sym (range_with_len-append after n (rank - further))
    ∙ ap (λ b. range_with_len after n ++ range_with_len b (rank - further)) ends in
    ap (filter test) whole
    ∙ filter-append test (range_with_len after n) (range_with_len further (rank - further))
    ∙ ap (λ l. l ++ kept_after axes further rank)
    (filter-all test after n (λ m above below. ap not (kept m above (omega arith))))

-- a table of the offsets of some axes, where `count` rows lie `step` apart along the axes from axis
-- a on, which stand before them
module _ (ds rest table : List ℕ) (a n step count : ℕ) (within : a + n ≤ length ds)
    (once : are_axes (length ds) (range_with_len a n ++ rest) ≡ true)
    (step_is : step ≡ size_of (take a ds))
    (count_is : count ≡ size_of (dims_at (range_with_len a n) ds))
    (len : length table ≡ size_of (dims_at rest ds))
    (each : (p : ℕ) → p < size_of (dims_at rest ds) → get_or table p 0 ≡ offset_of rest ds p) where
  size-axes : length table * count ≡ size_of (dims_at (range_with_len a n ++ rest) ds)
  size-axes =
      swapped (length table) count
      ∙ ap (λ m. count * m) len
      ∙ ap (λ m. m * size_of (dims_at rest ds)) count_is
      ∙ sym (size_of-dims_at-append (range_with_len a n) rest ds)

  offset_at-axes : (q : ℕ) → q < length table * count
      → offset_at table step count q ≡ offset_of (range_with_len a n ++ rest) ds q
  offset_at-axes q below =
      let through : List ℕ = range_with_len a n in
      let some : 0 < count =
      some_size count (length table) q (omega (arith, swapped (length table) count)) in
      let spans : 0 < size_of (dims_at through ds) = omega (arith, count_is) in
      let in_table : q / count < length table = div_below q count (length table) some below in
      let parts = offset_of-append through rest ds q once (are_axes-range (length ds) a n within) in
      let near = offset_of-range ds a n q within spans in
      let far = each (q / count) (omega (arith, len)) in
      let steps : q % size_of (dims_at through ds) * size_of (take a ds) ≡ q % count * step =
      ap (λ m. q % m * size_of (take a ds)) (sym count_is)
      ∙ ap (λ m. q % count * m) (sym step_is) in
      let rows : offset_of rest ds (q / size_of (dims_at through ds))
      ≡ offset_of rest ds (q / count) =
      ap (λ m. offset_of rest ds (q / m)) (sym count_is) in
      omega (arith, parts, near, far, steps, rows)

-- the tables of a reduction
pub record AreTables (ds axes : List ℕ) (first after further width run group : ℕ)
    (starts offsets : List ℕ) : Type 0 where
  pub order : first ≤ after
  pub order_kept : after ≤ further
  pub within : further ≤ length ds
  pub before : (k : ℕ) → 0 ≤ k → k < first → is_among k axes ≡ false
  pub dropped : (k : ℕ) → first ≤ k → k < after → is_among k axes ≡ true
  pub kept : (k : ℕ) → after ≤ k → k < further → is_among k axes ≡ false
  pub width_is : width ≡ size_of (dims_at (range_with_len 0 (first - 0)) ds)
  pub run_is : run ≡ size_of (dims_at (range_with_len first (after - first)) ds)
  pub group_is : group ≡ size_of (dims_at (range_with_len after (further - after)) ds)
  pub starts_len : length starts ≡ size_of (dims_at (kept_after axes further (length ds)) ds)
  pub starts_each : (p : ℕ) → p < size_of (dims_at (kept_after axes further (length ds)) ds)
      → get_or starts p 0 ≡ offset_of (kept_after axes further (length ds)) ds p
  pub offsets_len : length offsets ≡ size_of (dims_at (dropped_after axes after (length ds)) ds)
  pub offsets_each : (p : ℕ) → p < size_of (dims_at (dropped_after axes after (length ds)) ds)
      → get_or offsets p 0 ≡ offset_of (dropped_after axes after (length ds)) ds p

module _ (ds axes : List ℕ) (first after further width run group : ℕ) (starts offsets : List ℕ)
    (tables : AreTables ds axes first after further width run group starts offsets) where
  width-first : width ≡ size_of (dims_at (range_with_len 0 first) ds)
  width-first = tables.width_is ∙ ap (λ n. size_of (dims_at (range_with_len 0 n) ds)) (omega arith)

  kept-split : others axes (length ds) ≡ range_with_len 0 first ++ kept_after axes after (length ds)
  kept-split = others-split axes (length ds) first after tables.order
      (omega (arith, tables.order_kept, tables.within)) tables.before tables.dropped

  later-split : kept_after axes after (length ds)
      ≡ range_with_len after (further - after) ++ kept_after axes further (length ds)
  later-split =
      kept_after-split axes after further (length ds) tables.order_kept tables.within tables.kept

  dropped-split : among axes (length ds) ≡ range_with_len first
      (after - first) ++ dropped_after axes after (length ds)
  dropped-split =
      among-split axes (length ds) first after tables.order
      (omega (arith, tables.order_kept, tables.within)) tables.before tables.dropped

  -- the axes of a row and of a run
  width-taken : width ≡ size_of (take first ds)
  width-taken =
      width-first
      ∙ sym (ap size_of (dims_at-range ds 0 first
      (omega (arith, tables.order, tables.order_kept, tables.within))))

  step-first : width * run ≡ size_of (dims_at (range_with_len 0 after) ds)
  step-first =
      let n : ℕ = after - first in
      let ends : first + n ≡ after = omega (arith, tables.order) in
      let begins : first ≡ 0 + first = omega arith in
      ap (λ m. m * run) width-first
      ∙ ap (λ m. size_of (dims_at (range_with_len 0 first) ds) * m) tables.run_is
      ∙ sym (size_of-dims_at-append (range_with_len 0 first) (range_with_len first n) ds)
      ∙ ap (λ b. size_of (dims_at (range_with_len 0 first ++ range_with_len b n) ds)) begins
      ∙ ap (λ l. size_of (dims_at l ds)) (range_with_len-append 0 first n)
      ∙ ap (λ m. size_of (dims_at (range_with_len 0 m) ds)) ends

  step-taken : width * run ≡ size_of (take after ds)
  step-taken =
      step-first
      ∙ sym (ap size_of (dims_at-range ds 0 after (omega (arith, tables.order_kept, tables.within))))

  -- a group spans no more than the bulk
  pub group-le : group * (width * run) ≤ bulk_of ds
  group-le =
      let n : ℕ = further - after in
      let ends : after + n ≡ further = omega (arith, tables.order_kept) in
      let begins : after ≡ 0 + after = omega arith in
      let spans : group * (width * run) ≡ size_of (dims_at (range_with_len 0 further) ds) =
      swapped group (width * run)
      ∙ ap (λ m. m * group) step-first
      ∙ ap (λ m. size_of (dims_at (range_with_len 0 after) ds) * m) tables.group_is
      ∙ sym (size_of-dims_at-append (range_with_len 0 after) (range_with_len after n) ds)
      ∙ ap (λ b. size_of (dims_at (range_with_len 0 after ++ range_with_len b n) ds)) begins
      ∙ ap (λ l. size_of (dims_at l ds)) (range_with_len-append 0 after n)
      ∙ ap (λ m. size_of (dims_at (range_with_len 0 m) ds)) ends in
      let most = span-le ds 0 further (omega (arith, tables.within)) in
      omega (arith, spans, most)

  -- the axes of each list are axes, once
  kept-once : are_axes (length ds) (range_with_len 0 first ++ kept_after axes after (length ds))
      ≡ true
  kept-once =
      subst (λ l. are_axes (length ds) l ≡ true) kept-split (are_axes-others axes (length ds))

  later-once : are_axes (length ds)
      (range_with_len after (further - after) ++ kept_after axes further (length ds)) ≡ true
  later-once =
      subst (λ l. are_axes (length ds) l ≡ true) later-split
      (are_axes-picked (λ k. not (is_among k axes)) (length ds) after (length ds - after)
      (omega (arith, tables.order_kept, tables.within)))

  dropped-once : are_axes (length ds)
      (range_with_len first (after - first) ++ dropped_after axes after (length ds)) ≡ true
  dropped-once =
      subst (λ l. are_axes (length ds) l ≡ true) dropped-split (are_axes-among axes (length ds))

  later_ends : after + (further - after) ≤ length ds
  later_ends = omega (arith, tables.order_kept, tables.within)

  dropped_ends : first + (after - first) ≤ length ds
  dropped_ends = omega (arith, tables.order, tables.order_kept, tables.within)

  -- how many rows the result has
  size-rows : length starts * group ≡ size_of (dims_at (kept_after axes after (length ds)) ds)
  size-rows =
      size-axes ds (kept_after axes further (length ds)) starts after (further - after)
      (width * run) group later_ends later-once step-taken tables.group_is tables.starts_len
      tables.starts_each
      ∙ ap (λ l. size_of (dims_at l ds)) (sym later-split)

  -- how many places the result has, and how many values are combined into one
  pub size-kept : length starts * group * width ≡ size_of (other_dims axes ds)
  size-kept =
      swapped (length starts * group) width
      ∙ ap (λ n. width * n) size-rows
      ∙ ap (λ n. n * size_of (dims_at (kept_after axes after (length ds)) ds)) width-first
      ∙ sym (size_of-dims_at-append (range_with_len 0 first) (kept_after axes after (length ds)) ds)
      ∙ ap (λ l. size_of (dims_at l ds)) (sym kept-split)

  pub size-dropped : length offsets * run ≡ size_of (dims_at (among axes (length ds)) ds)
  size-dropped =
      size-axes ds (dropped_after axes after (length ds)) offsets first (after - first)
      width run dropped_ends dropped-once width-taken tables.run_is tables.offsets_len
      tables.offsets_each
      ∙ ap (λ l. size_of (dims_at l ds)) (sym dropped-split)

  -- where a kept index list lies
  pub start_at-kept : (p : ℕ) → p < length starts * group * width
      → start_at starts group width run p ≡ offset_of (others axes (length ds)) ds p
  start_at-kept p below =
      let through : List ℕ = range_with_len 0 first in
      let rest : List ℕ = kept_after axes after (length ds) in
      let rows : ℕ = length starts * group in
      let some : 0 < width = some_size width rows p (omega (arith, swapped rows width)) in
      let spans : 0 < size_of (dims_at through ds) = omega (arith, width-first) in
      let row : p / width < rows = div_below p width rows some below in
      let short : 0 + first ≤ length ds =
      omega (arith, tables.order, tables.order_kept, tables.within) in
      let parts = offset_of-append through rest ds p kept-once
      (are_axes-range (length ds) 0 first short) in
      let near = offset_of-range ds 0 first p short spans in
      let far : offset_at starts (width * run) group (p / width) ≡ offset_of rest ds (p / width) =
      offset_at-axes ds (kept_after axes further (length ds)) starts after (further - after)
      (width * run) group later_ends later-once step-taken tables.group_is tables.starts_len
      tables.starts_each (p / width) row
      ∙ ap (λ l. offset_of l ds (p / width)) (sym later-split) in
      let all : offset_of (others axes (length ds)) ds p ≡ offset_of (through ++ rest) ds p =
      ap (λ l. offset_of l ds p) kept-split in
      let in_row : p % size_of (dims_at through ds) ≡ p % width = ap (λ n. p % n) (sym width-first) in
      let in_rows : offset_of rest ds (p / size_of (dims_at through ds)) ≡ offset_of rest ds
      (p / width) =
      ap (λ n. offset_of rest ds (p / n)) (sym width-first) in
      omega (arith, parts, near, far, all, in_row, in_rows)

  -- how much further a dropped one lies
  pub offset_at-dropped : (q : ℕ) → q < length offsets * run
      → offset_at offsets width run q ≡ offset_of (among axes (length ds)) ds q
  offset_at-dropped q below =
      offset_at-axes ds (dropped_after axes after (length ds)) offsets first (after - first)
      width run dropped_ends dropped-once width-taken tables.run_is tables.offsets_len
      tables.offsets_each q below
      ∙ ap (λ l. offset_of l ds q) (sym dropped-split)

  -- so together they are the place that is read
  pub table_place : (p q : ℕ) → p < length starts * group * width → q < length offsets * run
      → start_at starts group width run p + offset_at offsets width run q ≡ place_dropped ds axes p q
  table_place p q in_kept in_dropped =
      omega (
        arith,
        start_at-kept p in_kept,
        offset_at-dropped q in_dropped,
        place_dropped-offsets ds axes p q (omega (arith, size-kept)) (omega (arith, size-dropped)),
      )

  pub table_place-below : (p q : ℕ) → p < length starts * group * width → q < length offsets * run
      → start_at starts group width run p + offset_at offsets width run q < size_of ds
  table_place-below p q in_kept in_dropped =
      omega (
        arith,
        table_place p q in_kept in_dropped,
        place_dropped-below ds axes p q (omega (arith, size-kept)) (omega (arith, size-dropped)),
      )

  -- and what is combined is the reduction's value
  pub folded-reduced : (r : Reducer) (values : List ℤ) (p : ℕ) → p < length starts * group * width
      → folded r (unit r) (λ q. value_in values
      (start_at starts group width run p + offset_at offsets width run q)) (length offsets * run)
      ≡ reduced r axes ds (λ is. value_in values (place ds is)) (index_of (other_dims axes ds) p)
  folded-reduced r values p in_kept =
      folded-ext r (unit r) (λ q. value_in values
      (start_at starts group width run p + offset_at offsets width run q))
      (λ q. value_in values (place_dropped ds axes p q)) (length offsets * run)
      (λ q below. ap (value_in values) (table_place p q in_kept below))
      ∙ ap (folded r (unit r) (λ q. value_in values (place_dropped ds axes p q))) size-dropped
      ∙ ap (fold (combine r) (unit r))
      (sym (map-map (λ js. value_in values
      (place ds (merged (among axes (length ds)) ds js (index_of (other_dims axes ds) p))))
      (index_of (dims_at (among axes (length ds)) ds))
      (range_with_len 0 (size_of (dims_at (among axes (length ds)) ds)))))
