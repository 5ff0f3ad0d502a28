-- The collector's table.
use Rattle.std.proofs.Common.{◌≡◌, ℕ, zero, suc, ◌+◌, ◌-◌, ◌*◌, ◌/◌, ◌%◌, ◌<◌, ◌≤◌, min}
use Rattle.std.proofs.Common.{List, [], ◌∷◌, ◌++◌, length, map, set, replicate, Contains, Some}
use Rattle.std.proofs.Common.{refl, ap, sym, subst, ◌∙◌, arith, add-zero}
use Rattle.std.specs.declared.vec.Vec.{Vec}
use Rattle.std.specs.List.{range_with_len, slice_get}
use Rattle.std.proofs.lemmas.List.{map-set, map-append, length-map, replicate_more}
use Rattle.std.proofs.lemmas.List.FromFn.{length-map-range_with_len}
use Rattle.std.proofs.lemmas.Option.{slice_get_within, slice_get_read, get_or_from_slice_get}
use Rattle.std.proofs.lemmas.Grind.{div_ceil_times}
use Rattle.std.proofs.lemmas.Nat.{div-add-mod'}
use Rattle.std.proofs.Math.Nat.{add-mul-div_right, add-mul-mod_self_right, lt_of_mul-lt-mul_right}
use Rattle.parallel_for.specs.Leaves.{Range, blocks_of, leaf}
use Rattle.parallel_for.specs.Items.{AreItems}
use Rattle.parallel_for.specs.Table.{rows_of, AreOfBlock, IsTable, missing, IsTaken}
use Rattle.parallel_for.proofs.Runs.{map-joined}
use Rattle.parallel_for.proofs.Cutting.{times-add, leaf-begins}

-- everything is missing from a blank table
pub missing-blank : (I : Type 0) (n b i m : ℕ)
    → missing {I = I} n b i (replicate m []) ≡ map (leaf 0 n b) (range_with_len i m)
missing-blank I n b i zero = refl
missing-blank I n b i (suc m) =
    ap (λ (l : List Range). leaf 0 n b i ∷ l) (missing-blank I n b (i + 1) m)

-- the place of an element
pub Contains-at : {X : Type 0} (xs : List X) (x : X) → Contains xs x
    → (k : ℕ) × (slice_get xs k ≡ Some x)
Contains-at xs x at = (at.0, slice_get_read xs (length xs) at.0 x refl at.1 (sym at.2))

pub Contains-from : {X : Type 0} (xs : List X) (x : X) (k : ℕ) → slice_get xs k ≡ Some x
    → Contains xs x
Contains-from xs x k at = (k, slice_get_within xs k x at, get_or_from_slice_get xs k x x at)

-- a list without items
pub items-none : {I : Type 0} (items : List I) → length items ≡ 0 → items ≡ []
items-none [] none = refl
items-none (x ∷ items) none = absurd (omega arith)

module _ {I : Type 0} (n b : ℕ) where
  module _ (item_at : ℕ → I) where
    -- a table in which everything is missing
    pub IsTable-blank : (i m : ℕ) → IsTable n b item_at i (replicate m [])
    IsTable-blank i zero = tt
    IsTable-blank i (suc m) = IsTable-blank (i + 1) m

    -- a row gets its block's items
    pub IsTable-set : (i k : ℕ) (rows : List (List I)) (items : List I)
        → IsTable n b item_at i rows
        → k < length rows
        → 0 < length items
        → AreOfBlock n b item_at (i + k) items
        → IsTable n b item_at i (set rows k items)
    IsTable-set i k [] items table below some is = absurd (omega arith)
    IsTable-set i zero (row ∷ rows) [] table below some is = absurd (omega arith)
    IsTable-set i zero ([] ∷ rows) (x ∷ items) table below some is =
        (subst (λ (j : ℕ). AreOfBlock n b item_at j (x ∷ items)) (add-zero i) is, table)
    IsTable-set i zero ((y ∷ row) ∷ rows) (x ∷ items) table below some is =
        (subst (λ (j : ℕ). AreOfBlock n b item_at j (x ∷ items)) (add-zero i) is, table.1)
    IsTable-set i (suc k) ([] ∷ rows) items table below some is =
        let next : i + suc k ≡ i + 1 + k = omega arith in
        IsTable-set (i + 1) k rows items table (omega arith) some
        (subst (λ (j : ℕ). AreOfBlock n b item_at j items) next is)
    IsTable-set i (suc k) ((y ∷ row) ∷ rows) items table below some is =
        let next : i + suc k ≡ i + 1 + k = omega arith in (
          table.0,
          IsTable-set (i + 1) k rows items table.1 (omega arith) some
              (subst (λ (j : ℕ). AreOfBlock n b item_at j items) next is),
        )

    -- the first row that is left, if it has items
    pub IsTable-head : (i : ℕ) (items : List I) (rows all : List (List I))
        → all ≡ items ∷ rows
        → 0 < length items
        → IsTable n b item_at i all
        → AreOfBlock n b item_at i items × IsTable n b item_at (i + 1) rows
    IsTable-head i [] rows all split some table = absurd (omega arith)
    IsTable-head i (x ∷ items) rows all split some table = subst (IsTable n b item_at i) split table

    -- a leaf with its items is its block's, and has some
    pub AreOfBlock-leaf : (first last : ℕ) (items : List I) → 0 < b → first < n → first % b ≡ 0
        → last ≡ first + min b (n - first)
        → AreItems item_at first last items
        → (first / b < blocks_of n b) × (0 < length items)
        × AreOfBlock n b item_at (first / b) items
    AreOfBlock-leaf first last items some below whole ends is =
        let split : first / b * b ≡ first = omega (arith, div-add-mod' first b) in
        let up = (div_ceil_times n b some).0 in
        let inside : first / b < blocks_of n b = lt_of_mul-lt-mul_right b (omega (arith, up)) in
        let long = ap length is ∙ length-map-range_with_len item_at first (last - first) in
        let end : last ≡ min ((first / b + 1) * b) n = omega (arith, times-add (first / b) 1 b) in (
          inside,
          omega arith,
          subst (λ (f : ℕ). AreItems item_at f (min ((first / b + 1) * b) n) items) (sym split)
              (subst (λ (l : ℕ). AreItems item_at first l items) end is),
        )

    -- no block is joined
    pub joined-none : (i : ℕ) (items : List I) → i ≡ 0 → items ≡ []
        → AreItems item_at 0 (min (i * b) n) items
    joined-none i items first none =
        let end : 0 ≡ min (i * b) n - 0 = rw first (omega arith) in
        none ∙ ap (λ (m : ℕ). map item_at (range_with_len 0 m)) end

    -- the items of one more block
    pub joined-more : (i j : ℕ) (before items after : List I)
        → 0 < b → i < blocks_of n b → j ≡ i + 1
        → AreItems item_at 0 (min (i * b) n) before
        → AreOfBlock n b item_at i items
        → after ≡ before ++ items
        → AreItems item_at 0 (min (j * b) n) after
    joined-more i j before items after some below next so_far is joined =
        let begins = leaf-begins n b i some below in
        let size = min ((i + 1) * b) n - i * b in
        let from : min (i * b) n - 0 ≡ i * b = omega arith in
        let start : 0 + i * b ≡ i * b = omega arith in
        let low = map item_at (range_with_len 0 (i * b)) in
        let so_far' : before ≡ low =
        so_far ∙ ap (λ (m : ℕ). map item_at (range_with_len 0 m)) from in
        let end : i * b + size ≡ min (j * b) n - 0 = rw next (omega (arith, times-add i 1 b)) in
        joined
        ∙ ap (λ (l : List I). l ++ items) so_far'
        ∙ ap (λ (l : List I). low ++ l) is
        ∙ ap (λ (s : ℕ). low ++ map item_at (range_with_len s size)) (sym start)
        ∙ map-joined item_at 0 (i * b) size
        ∙ ap (λ (m : ℕ). map item_at (range_with_len 0 m)) end

    -- there is room for the items of one more block
    pub room-more : (i : ℕ) (before items : List I) → 0 < b → i < blocks_of n b
        → AreItems item_at 0 (min (i * b) n) before
        → AreOfBlock n b item_at i items
        → length before + length items ≤ n
    room-more i before items some below so_far is =
        let begins = leaf-begins n b i some below in
        let long = ap length so_far ∙ length-map-range_with_len item_at 0 (min (i * b) n - 0) in
        let long' = ap length is
        ∙ length-map-range_with_len item_at (i * b) (min ((i + 1) * b) n - i * b) in
        omega arith

    -- all blocks are joined
    pub joined-all : (i : ℕ) (items : List I) → 0 < b → i ≡ blocks_of n b
        → AreItems item_at 0 (min (i * b) n) items
        → AreItems item_at 0 n items
    joined-all i items some all so_far =
        let up = (div_ceil_times n b some).0 in
        let end : min (i * b) n ≡ n = rw all (omega (arith, up)) in
        subst (λ (m : ℕ). AreItems item_at 0 m items) end so_far

  -- one leaf less is missing
  pub missing-set : (i k : ℕ) (rows : List (List I)) (items : List I)
      → slice_get rows k ≡ Some []
      → 0 < length items
      → IsTaken (missing n b i rows) (leaf 0 n b (i + k) ∷ []) (missing n b i (set rows k items))
  missing-set i k [] items at some = absurd (cc)
  missing-set i zero (row ∷ rows) [] at some = absurd (omega arith)
  missing-set i zero ([] ∷ rows) (x ∷ items) at some = record {
    weigh = λ h.
        let same : h (leaf 0 n b i) ≡ h (leaf 0 n b (i + 0)) =
        ap (λ (j : ℕ). h (leaf 0 n b j)) (omega arith) in
        omega arith;
  }
  missing-set i zero ((y ∷ row) ∷ rows) (x ∷ items) at some = absurd (cc)
  missing-set i (suc k) ([] ∷ rows) items at some = record {
    weigh = λ h.
        let rest = (missing-set (i + 1) k rows items at some).weigh h in
        let same : h (leaf 0 n b (i + 1 + k)) ≡ h (leaf 0 n b (i + suc k)) =
        ap (λ (j : ℕ). h (leaf 0 n b j)) (omega arith) in
        omega arith;
  }
  missing-set i (suc k) ((y ∷ row) ∷ rows) items at some = record {
    weigh = λ h.
        let rest = (missing-set (i + 1) k rows items at some).weigh h in
        let same : h (leaf 0 n b (i + 1 + k)) ≡ h (leaf 0 n b (i + suc k)) =
        ap (λ (j : ℕ). h (leaf 0 n b j)) (omega arith) in
        omega arith;
  }

  -- nothing is missing at a row that has items
  pub missing-head : (i j : ℕ) (items : List I) (rows all : List (List I))
      → all ≡ items ∷ rows
      → j ≡ i + 1
      → 0 < length items
      → missing n b i all ≡ missing n b j rows
  missing-head i j [] rows all split next some = absurd (omega arith)
  missing-head i j (x ∷ items) rows all split next some =
      ap (missing n b i) split ∙ ap (λ (k : ℕ). missing n b k rows) (sym next)

  -- if nothing is missing, each row has items
  pub some-at-head : (i : ℕ) (items : List I) (rows all : List (List I)) (ranges : List Range)
      → all ≡ items ∷ rows
      → ranges ≡ missing n b i all
      → ranges ≡ []
      → 0 < length items
  some-at-head i [] rows all ranges split same none =
      let cons : leaf 0 n b i ∷ missing n b (i + 1) rows ≡ [] =
      sym (ap (missing n b i) split) ∙ sym same ∙ none in
      absurd (cc)
  some-at-head i (x ∷ items) rows all ranges split same none = omega arith

  -- a range that is missing is the leaf of an empty row
  pub missing-at : (i k : ℕ) (rows : List (List I)) (r : Range)
      → slice_get (missing n b i rows) k ≡ Some r
      → (row : ℕ) × (slice_get rows row ≡ Some []) × (r ≡ leaf 0 n b (i + row))
  missing-at i k [] r at = absurd (cc)
  missing-at i zero ([] ∷ rows) r at =
      let same : leaf 0 n b i ≡ r = grind (arith, at) in
      (zero, refl, sym same ∙ ap (leaf 0 n b) (omega arith))
  missing-at i (suc k) ([] ∷ rows) r at =
      let rest = missing-at (i + 1) k rows r at in
      (suc rest.0, rest.1, rest.2 ∙ ap (leaf 0 n b) (omega arith))
  missing-at i k ((x ∷ row) ∷ rows) r at =
      let rest = missing-at (i + 1) k rows r at in
      (suc rest.0, rest.1, rest.2 ∙ ap (leaf 0 n b) (omega arith))

times-next : (k b : ℕ) → (0 + k + 1) * b ≡ k * b + b
times-next k b = grind arith

-- a leaf passes the test of leaves
pub leaf-passes : (n b k : ℕ) (r : Range) → 0 < b → k < blocks_of n b → r ≡ leaf 0 n b (0 + k)
    → (r.0 < n) × (r.0 % b ≡ 0) × (r.1 ≡ r.0 + min b (n - r.0)) × (r.0 / b ≡ k)
leaf-passes n b k r some below is =
    let begins = leaf-begins n b k some below in
    let plain : 0 + k ≡ k = omega arith in
    let first : r.0 ≡ k * b = ap (λ (s : Range). s.0) is ∙ rw plain (omega arith) in
    let last : r.1 ≡ k * b + min b (n - k * b) =
    ap (λ (s : Range). s.1) is ∙ omega (arith, times-next k b) in
    let whole : (0 + k * b) % b ≡ 0 % b = add-mul-mod_self_right 0 k b in
    let part : (0 + k * b) / b ≡ 0 / b + k = add-mul-div_right 0 k some in
    let same : 0 + k * b ≡ k * b = omega arith in
    let no_blocks : 0 / b ≡ 0 = omega arith in
    let no_part : 0 % b ≡ 0 = omega arith in (
      omega arith,
      ap (λ (f : ℕ). f % b) (first ∙ sym same) ∙ whole ∙ no_part,
      rw first last,
      ap (λ (f : ℕ). f / b) (first ∙ sym same) ∙ part ∙ omega arith,
    )

-- what passes the test of leaves is a leaf
pub leaf-passed : (n b first last : ℕ) → first % b ≡ 0 → first < n
    → last ≡ first + min b (n - first)
    → leaf 0 n b (0 + first / b) ≡ (first, last)
leaf-passed n b first last whole below ends =
    let split : first / b * b ≡ first = omega (arith, div-add-mod' first b) in
    let plain : 0 + first / b ≡ first / b = omega arith in
    let start : 0 + (0 + first / b) * b ≡ first = rw plain (omega arith) in
    let end : 0 + min ((0 + first / b + 1) * b) n ≡ last =
    omega (arith, times-next (first / b) b) in
    (λ i. (start i, end i))

module _ {I A : Type 0} where
  -- as many lists of items as rows
  pub length-rows_of : (rows : List (Vec I A)) → length (rows_of rows) ≡ length rows
  length-rows_of rows = length-map rows (λ (v : Vec I A). v.items)

  -- one more empty row
  pub rows_of-more : (rows all : List (Vec I A)) (row : Vec I A) (count : ℕ)
      → all ≡ rows ++ row ∷ []
      → row.items ≡ []
      → rows_of rows ≡ replicate count []
      → rows_of all ≡ replicate (count + 1) []
  rows_of-more rows all row count more blank so_far =
      ap rows_of more
      ∙ map-append (λ (v : Vec I A). v.items) rows (row ∷ [])
      ∙ rw (so_far, blank) (replicate_more count [])

  -- the items after a row was written
  pub rows_of-set : (rows : List (Vec I A)) (k : ℕ) (row : Vec I A)
      → rows_of (set rows k row) ≡ set (rows_of rows) k row.items
  rows_of-set rows k row = map-set (λ (v : Vec I A). v.items) rows k row

  -- a range that is missing is a leaf whose row is empty
  pub missing-leaf : (n b first last : ℕ) (rows : List (Vec I A))
      → 0 < b → length rows ≡ blocks_of n b
      → Contains (missing n b 0 (rows_of rows)) (first, last)
      → ((first < n) × (first % b ≡ 0) × (last ≡ first + min b (n - first)))
      × (slice_get (rows_of rows) (first / b) ≡ Some [])
  missing-leaf n b first last rows some long missing =
      let place = Contains-at _ (first, last) missing in
      let at = missing-at n b 0 place.0 (rows_of rows) (first, last) place.1 in
      let below = slice_get_within (rows_of rows) at.0 [] at.1 in
      let leaf =
      leaf-passes n b at.0 (first, last) some
      (omega (arith, below, length-rows_of rows, long)) at.2 in
      ((leaf.0, leaf.1, leaf.2), ap (slice_get (rows_of rows)) leaf.3 ∙ at.1)
