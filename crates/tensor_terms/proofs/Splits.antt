-- Axes in two lists, one after the other, and axes that lie next to each other.
use Rattle.std.proofs.Common.{◌≡◌, ℕ, zero, suc, ◌+◌, ◌-◌, ◌*◌, ◌/◌, ◌%◌, ◌<◌, ◌≤◌, List, [], ◌∷◌}
use Rattle.std.proofs.Common.{◌++◌, length, get_or, take, drop, Bool, true, false, not}
use Rattle.std.proofs.Common.{refl, ap, sym, subst, ◌∙◌, arith, add-one}
use Rattle.std.specs.List.{filter, range_with_len}
use Rattle.std.proofs.lemmas.List.{map-append}
use Rattle.std.proofs.lemmas.List.Elements.{filter-append}
use Rattle.std.proofs.Math.Nat.{div-div-eq-div-mul}
use Rattle.std.proofs.Math.Seq.{drop-cons}
use Rattle.tensor_shape.specs.Index.{size_of, index_of}
use Rattle.tensor_shape.specs.Legal.{bulk_of}
use Rattle.tensor_terms.specs.Movement.{is_among}
use Rattle.tensor_terms.specs.Reduction.{are_axes}
use Rattle.tensor_terms.specs.Merged.{among, others, dims_at}
use Rattle.tensor_terms.proofs.OtherAxes.{are_axes-picked, filter-all, filter-none}
use Rattle.tensor_terms.proofs.OtherAxes.{range_with_len-append}
use Rattle.tensor_terms.proofs.DimsAt.{size_of-dims_at-le}

-- numbers of a run are axes
pub are_axes-range : (rank a n : ℕ) → a + n ≤ rank → are_axes rank (range_with_len a n) ≡ true
are_axes-range rank a n within =
    subst (λ l. are_axes rank l ≡ true) (filter-all (λ k. true) a n (λ m above below. refl))
    (are_axes-picked (λ k. true) rank a n within)

-- how many elements dims after dims have
pub size_of-append : (xs ys : List ℕ) → size_of (xs ++ ys) ≡ size_of xs * size_of ys
size_of-append [] ys = omega arith
size_of-append (x ∷ xs) ys = ap (λ n. x * n) (size_of-append xs ys)
    ∙ regroup (size_of xs) (size_of ys)
  where
    regroup : (m n : ℕ) → x * (m * n) ≡ x * m * n
    regroup m n = grind arith

pub size_of-dims_at-append : (xs ys ds : List ℕ)
    → size_of (dims_at (xs ++ ys) ds) ≡ size_of (dims_at xs ds) * size_of (dims_at ys ds)
size_of-dims_at-append xs ys ds =
    ap size_of (map-append (λ s. get_or ds s 0) xs ys)
    ∙ size_of-append (dims_at xs ds) (dims_at ys ds)

-- the index list of a place of dims after dims
pub index_of-append : (ds es : List ℕ) (p : ℕ)
    → index_of (ds ++ es) p ≡ index_of ds p ++ index_of es (p / size_of ds)
index_of-append [] es p = ap (index_of es) (omega arith)
index_of-append (d ∷ ds) es p =
    ap (λ l. p % d ∷ l)
    (index_of-append ds es (p / d)
    ∙ ap (λ q. index_of ds (p / d) ++ index_of es q) (div-div-eq-div-mul p d (size_of ds)))

pub length-index_of : (ds : List ℕ) (p : ℕ) → length (index_of ds p) ≡ length ds
length-index_of [] p = refl
length-index_of (d ∷ ds) p = ap suc (length-index_of ds (p / d))

-- axes before the first that is among some, those that are among them up to the next that isn't,
-- and the rest of them
module _ (axes : List ℕ) (rank first after : ℕ) (order : first ≤ after) (within : after ≤ rank)
    (before : (k : ℕ) → 0 ≤ k → k < first → is_among k axes ≡ false)
    (run : (k : ℕ) → first ≤ k → k < after → is_among k axes ≡ true) where
  whole : range_with_len 0 rank ≡ range_with_len 0 first ++
      (range_with_len first (after - first) ++ range_with_len after (rank - after))
  whole =
      let one : first + (after - first) ≡ after = omega arith in
      let two : after - first + (rank - after) ≡ rank - first = omega arith in
      let three : first + (rank - first) ≡ rank = omega arith in
      let last : range_with_len first (after - first) ++ range_with_len after (rank - after)
      ≡ range_with_len first (rank - first) =
      ap (λ b. range_with_len first (after - first) ++ range_with_len b (rank - after)) (sym one)
      ∙ range_with_len-append first (after - first) (rank - after)
      ∙ ap (range_with_len first) two in
      let begins : first ≡ 0 + first = omega arith in
      sym (ap (λ l. range_with_len 0 first ++ l) last
      ∙ ap (λ b. range_with_len 0 first ++ range_with_len b (rank - first)) begins
      ∙ range_with_len-append 0 first (rank - first) ∙ ap (range_with_len 0) three)

  split : (test : ℕ → Bool) → filter test (range_with_len 0 rank)
      ≡ filter test (range_with_len 0 first)
      ++ (filter test (range_with_len first (after - first)) ++ filter test
      (range_with_len after (rank - after)))
  split test =
      ap (filter test) whole
      ∙ filter-append test (range_with_len 0 first)
      (range_with_len first (after - first) ++ range_with_len after (rank - after))
      ∙ ap (λ l. filter test (range_with_len 0 first) ++ l)
      (filter-append test (range_with_len first (after - first))
      (range_with_len after (rank - after)))

  pub among-split : among axes rank ≡ range_with_len first (after - first) ++ filter
      (λ k. is_among k axes) (range_with_len after (rank - after))
  among-split =
      let test : ℕ → Bool = λ k. is_among k axes in
      let none : filter test (range_with_len 0 first) ≡ [] =
      filter-none test 0 first (λ m above below. before m above (omega arith)) in
      let all : filter test (range_with_len first (after - first)) ≡ range_with_len first
      (after - first) =
      filter-all test first (after - first) (λ m above below. run m above (omega arith)) in
      split test ∙ rw (none, all) refl

  pub others-split : others axes rank ≡ range_with_len 0 first ++ filter
      (λ k. not (is_among k axes)) (range_with_len after (rank - after))
  others-split =
      let test : ℕ → Bool = λ k. not (is_among k axes) in
      let all : filter test (range_with_len 0 first) ≡ range_with_len 0 first =
      filter-all test 0 first (λ m above below. ap not (before m above (omega arith))) in
      let none : filter test (range_with_len first (after - first)) ≡ [] =
      filter-none test first (after - first)
      (λ m above below. ap not (run m above (omega arith))) in
      split test ∙ rw (all, none) refl

-- the dims of the first axes
pub dims_at-range : (ds : List ℕ) (a n : ℕ) → a + n ≤ length ds
    → take n (drop a ds) ≡ dims_at (range_with_len a n) ds
dims_at-range ds a zero within = refl
dims_at-range ds a (suc n) within =
    rw (drop-cons ds a 0 (omega arith))
    (ap (λ l. get_or ds a 0 ∷ l) (rw (← add-one a) (dims_at-range ds (a + 1) n (omega arith))))

-- an axis more
pub span-more : (ds : List ℕ) (from k : ℕ) → from ≤ k
    → size_of (dims_at (range_with_len from (k + 1 - from)) ds) ≡ size_of
    (dims_at (range_with_len from (k - from)) ds) * get_or ds k 0
span-more ds from k order =
    let long : k + 1 - from ≡ k - from + 1 = omega arith in
    let here : from + (k - from) ≡ k = omega arith in
    let more : range_with_len from (k + 1 - from) ≡ range_with_len from (k - from) ++ k ∷ [] =
    ap (range_with_len from) long ∙ sym (range_with_len-append from (k - from) 1)
    ∙ ap (λ b. range_with_len from (k - from) ++ b ∷ []) here in
    ap (λ l. size_of (dims_at l ds)) more
    ∙ size_of-dims_at-append (range_with_len from (k - from)) (k ∷ []) ds
    ∙ ap (λ n. size_of (dims_at (range_with_len from (k - from)) ds) * n) (omega arith)

-- no axes span more than the bulk
pub span-le : (ds : List ℕ) (from n : ℕ) → from + n ≤ length ds
    → size_of (dims_at (range_with_len from n) ds) ≤ bulk_of ds
span-le ds from n within =
    size_of-dims_at-le (range_with_len from n) ds (are_axes-range (length ds) from n within)
