-- Parts of values, by parts of runs.
use Rattle.std.proofs.Common.{◌≡◌, ℕ, ◌+◌, ◌-◌, ◌*◌, ◌/◌, ◌%◌, ◌<◌, ◌≤◌, ℤ, pos, ◌+ℤ◌, ◌*ℤ◌}
use Rattle.std.proofs.Common.{List, ◌++◌, length, map, take, drop, get_or, true, Ok, IsOk}
use Rattle.std.proofs.Common.{ap, sym, subst, ◌∙◌, arith}
use Rattle.std.specs.List.{fold, range_with_len}
use Rattle.std.specs.Int.{w64}
use Rattle.std.specs.Result.{result_unwrap_or}
use Rattle.std.proofs.lemmas.Int.{int_wrap-add_left}
use Rattle.std.proofs.lemmas.List.{ext_get_or, map-append, take_all}
use Rattle.std.proofs.lemmas.List.FromFn.{length-map-range_with_len, get_or-map-range_with_len}
use Rattle.std.proofs.lemmas.List.FromFn.{length-range_with_len, get_or-range_with_len}
use Rattle.std.proofs.lemmas.Simd.{map-map}
use Rattle.tensor_shape.specs.Legal.{widest}
use Rattle.tensor_shape.specs.Index.{size_of, IsIndexOf, index_of}
use Rattle.tensor_shape.specs.Wrap.{wrap}
use Rattle.tensor_shape.proofs.Places.{length-IsIndexOf}
use Rattle.tensor_terms.specs.Contents.{Contents}
use Rattle.tensor_terms.specs.Contraction.{firsts, seconds, outer_dims}
use Rattle.tensor_loops.specs.Folds.{folded}
use Rattle.tensor_ops.specs.private.InRuns.{GivesParts}
use Rattle.tensor_ops.specs.private.Meaning.{meaning}
use Rattle.tensor_terms.specs.Movement.{moved, moved_dims, shuffled_dims, scattered}
use Rattle.tensor_values.specs.Values.{value_in}
use Rattle.tensor_ops.specs.private.Lowering.{Gives, meaning_at}
use Rattle.tensor_kernels.specs.Products.{sum_to}
use Rattle.tensor_terms.specs.Reduction.{are_axes}
use Rattle.tensor_terms.specs.Result.{dims_of, shape_of}
use Rattle.tensor_terms.specs.Term.{Term, binary, contract, shuffle}
use Rattle.tensor_terms.specs.Value.{value}
use Rattle.tensor_ops.specs.private.Runs.{LieInRuns}
use Rattle.tensor_ops.specs.private.ValueRuns.{run_value}
use Rattle.tensor_terms.specs.Merged.{others, dims_at, other_dims, merged}
use Rattle.tensor_ops.specs.declared.part_evaluator.in_runs.InRuns.TheVariants.{Multiplied}
use Rattle.tensor_ops.specs.declared.lowered.Lowered.{Lowered}
use Rattle.tensor_values.specs.declared.reducer.Reducer.{Reducer}
use Rattle.tensor_ops.specs.declared.part_evaluator.value_runs.ValueRuns.{ValueRuns}
use Rattle.tensor_ops.proofs.Contractions.{fold-sum_to}
use Rattle.tensor_terms.proofs.Dropped.{axes_first}
use Rattle.tensor_loops.proofs.Folding.{folded-ext, folded-append}
use Rattle.tensor_ops.proofs.Lowerings.{gives-index}
use Rattle.tensor_kernels.proofs.ProductSums.{sum_to-ext, sum_to-append}
use Rattle.tensor_values.proofs.Runs.{map-shifted}
use Rattle.tensor_terms.proofs.Splits.{size_of-append, dims_at-range}
use Rattle.tensor_terms.proofs.SameValues.{Agree}
use Rattle.tensor_terms.proofs.Terms.{contracted-known, contracted-parts}
use Rattle.tensor_terms.proofs.TwoParts.{shuffle-first, dims-first, part-below, merged-moved}
use Rattle.tensor_terms.proofs.TwoParts.{IsIndexOf-parts}
use Rattle.tensor_terms.proofs.Weaving.{merged-parts}

swapped : (m n : ℕ) → m * n ≡ n * m
swapped m n = grind arith

-- the values of a piece
pub piece-value : (f : ℕ → ℤ) (from count : ℕ) (items : List ℤ) (k : ℕ)
    → items ≡ map f (range_with_len from count) → k < count → value_in items k ≡ f (from + k)
piece-value f from count items k same below =
    ap (λ l. value_in l k) same
    ∙ get_or-map-range_with_len f from count k (from + k) (pos 0) below (omega arith)

-- a piece more is combined
pub folded-piece : (r : Reducer) (x : ℤ) (f : ℕ → ℤ) (first from count : ℕ) (items : List ℤ)
    → first ≤ from → items ≡ map f (range_with_len from count)
    → folded r (folded r x (λ q. f (first + q)) (from - first)) (value_in items) (length items)
    ≡ folded r x (λ q. f (first + q)) (from + count - first)
folded-piece r x f first from count items above same =
    let so_far : ℤ = folded r x (λ q. f (first + q)) (from - first) in
    let long : length items ≡ count =
    ap length same ∙ length-map-range_with_len f from count in
    let whole : from - first + count ≡ from + count - first = omega arith in
    ap (folded r so_far (value_in items)) long
    ∙ folded-ext r so_far (value_in items) (λ t. f (first + (from - first + t))) count
    (λ k below. piece-value f from count items k same below ∙ ap f (omega arith))
    ∙ sym (folded-append r x (λ q. f (first + q)) (from - first) count)
    ∙ ap (folded r x (λ q. f (first + q))) whole

-- a piece more of products is added
pub sum-piece : (f g : ℕ → ℤ) (first from count : ℕ) (xs ys : List ℤ) (s t : ℤ)
    → first ≤ from → xs ≡ map f (range_with_len from count)
    → ys ≡ map g (range_with_len from count)
    → s ≡ wrap (sum_to (λ q. f (first + q) *ℤ g (first + q)) (from - first))
    → t ≡ wrap (s +ℤ sum_to (λ q. value_in xs q *ℤ value_in ys q) (length xs))
    → t ≡ wrap (sum_to (λ q. f (first + q) *ℤ g (first + q)) (from + count - first))
sum-piece f g first from count xs ys s t above same_x same_y so_far next =
    let product : ℕ → ℤ = λ q. f (first + q) *ℤ g (first + q) in
    let long : length xs ≡ count = ap length same_x ∙ length-map-range_with_len f from count in
    let whole : from - first + count ≡ from + count - first = omega arith in
    let more : sum_to (λ q. value_in xs q *ℤ value_in ys q) (length xs)
    ≡ sum_to (λ k. product (from - first + k)) count =
    ap (sum_to (λ q. value_in xs q *ℤ value_in ys q)) long
    ∙ sum_to-ext (λ q. value_in xs q *ℤ value_in ys q) (λ k. product (from - first + k)) count
    (λ k below.
    let there : from + k ≡ first + (from - first + k) = omega arith in
    ap (λ x. x *ℤ value_in ys k) (piece-value f from count xs k same_x below ∙ ap f there)
    ∙ ap (λ y. f (first + (from - first + k)) *ℤ y)
    (piece-value g from count ys k same_y below ∙ ap g there)) in
    next
    ∙ ap (λ u. wrap (u +ℤ sum_to (λ q. value_in xs q *ℤ value_in ys q) (length xs))) so_far
    ∙ ap (λ u. wrap (wrap (sum_to product (from - first)) +ℤ u)) more
    ∙ int_wrap-add_left w64 (sum_to product (from - first))
    (sum_to (λ k. product (from - first + k)) count)
    ∙ ap wrap (sym (sum_to-append product (from - first) count)
    ∙ ap (sum_to product) whole)

-- axes that are first already are read as they are
pub in-order : (axes ds : List ℕ) → (legal : are_axes (length ds) axes ≡ true)
    → axes_first axes (length ds) ≡ range_with_len 0 (length ds) → (index : List ℕ)
    → IsIndexOf ds index → moved (shuffle (axes_first axes (length ds))) ds index ≡ index
in-order axes ds legal same index within =
    let long : length index ≡ length ds = length-IsIndexOf ds index within in
    let whole : shuffled_dims index (axes_first axes (length ds)) ≡ index =
    ap (shuffled_dims index) same
    ∙ sym (dims_at-range index 0 (length ds) (omega (arith, long)))
    ∙ take_all (length ds) index (omega (arith, long)) in
    let parts : shuffled_dims index (axes_first axes (length ds))
    ≡ dims_at axes index ++ dims_at (others axes (length ds)) index =
    map-append (λ s. get_or index s 0) axes (others axes (length ds)) in
    ap (λ js. scattered (axes_first axes (length ds)) js (map (λ d. 0) ds)) (sym whole ∙ parts)
    ∙ merged-parts axes ds legal index within

pub dims-in-order : (axes ds : List ℕ) → are_axes (length ds) axes ≡ true
    → axes_first axes (length ds) ≡ range_with_len 0 (length ds)
    → moved_dims widest (shuffle (axes_first axes (length ds))) ds ≡ Ok ds
dims-in-order axes ds legal same =
    shuffle-first axes ds legal
    ∙ ap (λ es. Ok es)
    (ap (shuffled_dims ds) same ∙ sym (dims_at-range ds 0 (length ds) (omega arith))
    ∙ take_all (length ds) ds (omega arith))

-- numbers that are each their own place
pub numbers-in-order : (xs : List ℕ) → ((k : ℕ) → k < length xs → get_or xs k 0 ≡ k)
    → xs ≡ range_with_len 0 (length xs)
numbers-in-order xs each =
    ext_get_or 0 xs (range_with_len 0 (length xs)) (sym (length-range_with_len 0 (length xs)))
    (λ k below.
    let here : k ≡ 0 + k = omega arith in
    each k below ∙ here ∙ sym (get_or-range_with_len 0 (length xs) k 0 below))

-- an operand with some axes first lies in runs along them
module _ (axes ds es : List ℕ) (f : List ℕ → ℤ) (legal : are_axes (length ds) axes ≡ true)
    (dims : moved_dims widest (shuffle (axes_first axes (length ds))) ds ≡ Ok es)
  where
    fronted-dims : es ≡ shuffled_dims ds (axes_first axes (length ds))
    fronted-dims =
        ap (λ r. result_unwrap_or r es) (sym dims ∙ shuffle-first axes ds legal)

    pub fronted-size : size_of es ≡ size_of (dims_at axes ds) * size_of (other_dims axes ds)
    fronted-size =
        ap size_of fronted-dims ∙ ap size_of (dims-first axes ds legal)
        ∙ size_of-append (dims_at axes ds) (other_dims axes ds)

    pub lie-in-runs : (at : ℕ → ℤ) (n count : ℕ)
        → ((p : ℕ) → p < size_of es
        → at p ≡ f (moved (shuffle (axes_first axes (length ds))) ds (index_of es p)))
        → n ≡ size_of (dims_at axes ds) → count ≡ size_of (other_dims axes ds)
        → LieInRuns at n count ds axes f
    lie-in-runs at n count each long many = record {
      long = long;
      many = many;
      each = λ x q in_others in_axes.
          let m : ℕ = size_of (dims_at axes ds) in
          let below : q + m * x < size_of es =
          omega (arith, ap size_of fronted-dims, part-below axes ds legal q x in_axes in_others) in
          ap (λ k. at (q + k * x)) long
          ∙ each (q + m * x) below
          ∙ ap (λ d. f (moved (shuffle (axes_first axes (length ds))) ds (index_of d (q + m * x))))
          fronted-dims
          ∙ ap f (merged-moved axes ds legal q x in_axes);
    }

-- which are also those of a function that agrees with it
lie-same : (at : ℕ → ℤ) (n count : ℕ) (ds axes : List ℕ) (f g : List ℕ → ℤ)
    → are_axes (length ds) axes ≡ true → LieInRuns at n count ds axes f → Agree ds f g
    → LieInRuns at n count ds axes g
lie-same at n count ds axes f g legal lies same = record {
  long = lies.long;
  many = lies.many;
  each = λ x q in_others in_axes.
      lies.each x q in_others in_axes
      ∙ same (merged axes ds (index_of (dims_at axes ds) q) (index_of (other_dims axes ds) x))
      (IsIndexOf-parts axes ds legal q x in_axes in_others);
}

module _ (inputs : List Contents) where
  -- the value that a run has, where the operand was lowered
  run-term : (t : Term) (operand : Lowered) (ds axes : List ℕ) (runs : ValueRuns)
      → are_axes (length (shape_of t inputs)) axes ≡ true
      → Gives operand ds (value t inputs) → ds ≡ shape_of t inputs
      → LieInRuns (meaning runs.lowered) runs.length runs.count ds axes (meaning_at operand ds)
      → LieInRuns (meaning runs.lowered) runs.length runs.count (shape_of t inputs) axes
      (value t inputs)
  run-term t operand ds axes runs legal gives shape lies =
      subst (λ d. LieInRuns (meaning runs.lowered) runs.length runs.count d axes (value t inputs))
      shape
      (lie-same (meaning runs.lowered) runs.length runs.count ds axes (meaning_at operand ds)
      (value t inputs) (rw shape legal) lies
      (λ index within. gives-index operand ds (value t inputs) index gives within))

  -- the parts of a contraction
  pub gives-contracted : (t u : Term) (pairs : List (ℕ × ℕ)) (ds es xs ys : List ℕ)
      (operand other : Lowered) (a b : ValueRuns)
      → IsOk (dims_of widest (binary (contract pairs) t u) inputs)
      → Gives operand ds (value t inputs) → ds ≡ shape_of t inputs
      → Gives other es (value u inputs) → es ≡ shape_of u inputs
      → xs ≡ firsts pairs
      → LieInRuns (meaning a.lowered) a.length a.count ds xs (meaning_at operand ds)
      → ys ≡ seconds pairs
      → LieInRuns (meaning b.lowered) b.length b.count es ys (meaning_at other es)
      → GivesParts (Multiplied a b) (binary (contract pairs) t u) inputs
  gives-contracted t u pairs ds es xs ys operand other a b has_dims gives shape gives_other
      shape_other is_xs lies is_ys lies_other =
      let d : List ℕ = shape_of t inputs in
      let e : List ℕ = shape_of u inputs in
      let known = contracted-known inputs pairs t u has_dims in
      let paired : dims_at (firsts pairs) d ≡ dims_at (seconds pairs) e = known.known.paired in
      let left : LieInRuns (meaning a.lowered) a.length a.count d (firsts pairs) (value t inputs) =
      run-term t operand ds (firsts pairs) a known.known.first gives shape
      (subst (λ l. LieInRuns (meaning a.lowered) a.length a.count ds l (meaning_at operand ds))
      is_xs lies) in
      let right : LieInRuns (meaning b.lowered) b.length b.count e (seconds pairs) (value u inputs) =
      run-term u other es (seconds pairs) b known.known.second gives_other shape_other
      (subst (λ l. LieInRuns (meaning b.lowered) b.length b.count es l (meaning_at other es))
      is_ys lies_other) in
      let kept : List ℕ = other_dims (firsts pairs) d in
      let rest : List ℕ = other_dims (seconds pairs) e in
      record {
        lengths = right.long ∙ ap size_of (sym paired) ∙ sym left.long;
        inner = left.long;
        places =
            ap (λ n. n * a.count) right.many ∙ ap (λ n. size_of rest * n) left.many
            ∙ swapped (size_of rest) (size_of kept)
            ∙ sym (size_of-append kept rest) ∙ ap size_of (sym known.shape);
        parts = λ p first count below within.
            let in_size : first + count ≤ size_of (dims_at (firsts pairs) d) = within in
            let parts = contracted-parts inputs pairs t u known p below in
            let is : List ℕ = index_of (shape_of (binary (contract pairs) t u) inputs) p in
            let is_at : index_of (outer_dims pairs d e) p ≡ is =
            ap (λ l. index_of l p) (sym known.shape) in
            let top : index_of kept (p % size_of kept) ≡ take (length kept) is =
            sym parts.first ∙ ap (take (length kept)) is_at in
            let bottom : index_of rest (p / size_of kept) ≡ drop (length kept) is =
            sym parts.second ∙ ap (drop (length kept)) is_at in
            let product : List ℕ → ℤ =
            λ js. value t inputs (merged (firsts pairs) d js (take (length kept) is))
            *ℤ value u inputs (merged (seconds pairs) e js (drop (length kept) is)) in
            let one : (q : ℕ) → first + q < first + count
            → run_value a (p % a.count) (first + q) *ℤ run_value b (p / a.count) (first + q)
            ≡ product (index_of (dims_at (firsts pairs) d) (first + q)) =
            λ q in_count.
            let in_first : first + q < size_of (dims_at (firsts pairs) d) = omega arith in
            let in_second : first + q < size_of (dims_at (seconds pairs) e) =
            omega (arith, ap size_of paired) in
            ap (λ n. run_value a (p % n) (first + q) *ℤ run_value b (p / n) (first + q)) left.many
            ∙ ap (λ x. x *ℤ run_value b (p / size_of kept) (first + q))
            (left.each (p % size_of kept) (first + q) parts.inner in_first
            ∙ ap (λ l. value t inputs (merged (firsts pairs) d
            (index_of (dims_at (firsts pairs) d) (first + q)) l)) top)
            ∙ ap (λ y. value t inputs (merged (firsts pairs) d
            (index_of (dims_at (firsts pairs) d) (first + q)) (take (length kept) is)) *ℤ y)
            (right.each (p / size_of kept) (first + q) parts.outer in_second
            ∙ ap (λ l. value u inputs (merged (seconds pairs) e (index_of l (first + q))
            (index_of rest (p / size_of kept)))) (sym paired)
            ∙ ap (λ l. value u inputs (merged (seconds pairs) e
            (index_of (dims_at (firsts pairs) d) (first + q)) l)) bottom) in
            ap wrap (sym (fold-sum_to (λ q. run_value a (p % a.count) (first + q)
            *ℤ run_value b (p / a.count) (first + q)) count))
            ∙ ap (λ l. wrap (fold ◌+ℤ◌ (pos 0) l))
            (map-shifted (λ q. run_value a (p % a.count) (first + q)
            *ℤ run_value b (p / a.count) (first + q))
            (λ k. product (index_of (dims_at (firsts pairs) d) k)) 0 first count
            (λ k in_count.
            let here : 0 + k ≡ k = omega arith in
            ap (λ q. run_value a (p % a.count) (first + q)
            *ℤ run_value b (p / a.count) (first + q)) here
            ∙ one k (omega arith))
            ∙ sym (map-map product (index_of (dims_at (firsts pairs) d))
            (range_with_len first count)));
      }
