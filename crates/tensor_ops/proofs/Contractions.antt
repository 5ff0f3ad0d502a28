-- What a contraction is, as sums of products of rows.
use Rattle.std.proofs.Common.{◌≡◌, ℕ, zero, suc, ℤ, pos, ◌+ℤ◌, ◌*ℤ◌, ◌*◌, ◌/◌, ◌%◌, ◌<◌, List}
use Rattle.std.proofs.Common.{[], ◌∷◌, ◌++◌}
use Rattle.std.proofs.Common.{length, map, take, drop, fold, refl, ap, sym, ◌∙◌, arith, add-one}
use Rattle.std.proofs.Common.{IsOk, subst}
use Rattle.std.specs.List.{range_with_len}
use Rattle.std.proofs.lemmas.List.FromFn.{map-range_with_len_more}
use Rattle.std.proofs.lemmas.List.Sums.{fold_push}
use Rattle.std.proofs.lemmas.Simd.{map-map}
use Rattle.std.proofs.lemmas.Nat.{div_below}
use Rattle.tensor_shape.specs.Legal.{widest}
use Rattle.tensor_shape.specs.Index.{size_of, place, index_of}
use Rattle.tensor_shape.specs.Wrap.{wrap}
use Rattle.tensor_terms.specs.Contraction.{firsts, seconds, outer_dims, contracted, contracted_dims}
use Rattle.tensor_kernels.specs.Products.{sum_to, rows_dot}
use Rattle.tensor_ops.specs.private.OperandRows.{IsOperand}
use Rattle.tensor_terms.specs.Merged.{dims_at, other_dims, merged}
use Rattle.tensor_terms.proofs.Known.{contraction-known}
use Rattle.tensor_ops.proofs.OperandRows.{operand-same}
use Rattle.tensor_kernels.proofs.ProductSums.{sum_to-ext}
use Rattle.tensor_terms.proofs.Splits.{size_of-append}
use Rattle.tensor_values.proofs.Factors.{some_factor}
use Rattle.tensor_terms.proofs.TwoParts.{take-index_of, drop-index_of}

-- a sum over a run of numbers
pub fold-sum_to : (f : ℕ → ℤ) (n : ℕ) → fold ◌+ℤ◌ (pos 0) (map f (range_with_len 0 n)) ≡ sum_to f n
fold-sum_to f zero = refl
fold-sum_to f (suc n) =
    let more : map f (range_with_len 0 (suc n)) ≡ map f (range_with_len 0 n) ++ f n ∷ [] =
    ap (λ k. map f (range_with_len 0 k)) (sym (add-one n))
    ∙ map-range_with_len_more f 0 n n (omega arith) in
    ap (λ l. fold ◌+ℤ◌ (pos 0) l) more
    ∙ fold_push ◌+ℤ◌ (pos 0) (map f (range_with_len 0 n)) (f n)
    ∙ ap (λ s. s +ℤ f n) (fold-sum_to f n)

-- the sum over the paired index lists, by their places
contracted-sum_to : (pairs : List (ℕ × ℕ)) (ds es : List ℕ) (a b : List ℕ → ℤ) (is : List ℕ)
    → contracted pairs ds es a b is
    ≡ wrap (sum_to (λ q.
    a (merged (firsts pairs) ds (index_of (dims_at (firsts pairs) ds) q)
    (take (length (other_dims (firsts pairs) ds)) is))
    *ℤ b (merged (seconds pairs) es (index_of (dims_at (firsts pairs) ds) q)
    (drop (length (other_dims (firsts pairs) ds)) is)))
    (size_of (dims_at (firsts pairs) ds)))
contracted-sum_to pairs ds es a b is =
    let product = λ (js : List ℕ).
    a (merged (firsts pairs) ds js (take (length (other_dims (firsts pairs) ds)) is))
    *ℤ b (merged (seconds pairs) es js (drop (length (other_dims (firsts pairs) ds)) is)) in
    let dims = dims_at (firsts pairs) ds in
    ap (λ l. wrap (fold ◌+ℤ◌ (pos 0) l))
    (map-map product (λ (q : ℕ). index_of dims q) (range_with_len 0 (size_of dims)))
    ∙ ap wrap (fold-sum_to (λ q. product (index_of dims q)) (size_of dims))

-- a count and values that are those of a contraction
pub record IsContraction (pairs : List (ℕ × ℕ)) (ds es : List ℕ) (a b : ℕ → ℤ) (count : ℕ)
    (value : ℕ → ℤ) : Type 0 where
  pub total : count ≡ size_of (outer_dims pairs ds es)
  pub each : (p : ℕ) → p < count
      → value p ≡ contracted pairs ds es (λ js. a (place ds js))
      (λ js. b (place es js)) (index_of (outer_dims pairs ds es) p)

-- two operands as rows: m rows of n values, and w rows of n' values
module _ (pairs : List (ℕ × ℕ)) (ds es : List ℕ) (a b : ℕ → ℤ) (m n w n' : ℕ)
    (first second : ℕ → ℕ → ℤ) (axes others : List ℕ)
    (legal : IsOk (contracted_dims widest pairs ds es))
    (is_first_at : IsOperand m n first a ds axes) (are_firsts : axes ≡ firsts pairs)
    (is_second_at : IsOperand w n' second b es others) (are_seconds : others ≡ seconds pairs) where
  is_first : IsOperand m n first a ds (firsts pairs)
  is_first = subst (λ axes. IsOperand m n first a ds axes) are_firsts is_first_at

  is_second : IsOperand w n' second b es (seconds pairs)
  is_second = subst (λ axes. IsOperand w n' second b es axes) are_seconds is_second_at

  same_dims : dims_at (firsts pairs) ds ≡ dims_at (seconds pairs) es
  same_dims = (contraction-known pairs ds es legal).paired

  -- the rows of both have equally many values
  pub row_length-paired : n ≡ n'
  row_length-paired = is_first.len ∙ ap size_of same_dims ∙ sym is_second.len

  -- the products of the rows of both operands are the contraction
  rows_dot-contracted : (p : ℕ) → p < w * m
      → rows_dot m n first second p
      ≡ contracted pairs ds es (λ js. a (place ds js)) (λ js. b (place es js))
      (index_of (outer_dims pairs ds es) p)
  rows_dot-contracted p within =
      let kept = other_dims (firsts pairs) ds in
      let other = other_dims (seconds pairs) es in
      let dims = dims_at (firsts pairs) ds in
      let is = index_of (kept ++ other) p in
      let some : 0 < m = some_factor w m p within in
      let some_size : 0 < size_of kept = omega (arith, is_first.count) in
      let row : p % m < m = omega arith in
      let column : p / m < w = div_below p m w some within in
      let top : take (length kept) is ≡ index_of kept (p % m) =
      take-index_of kept other p some_size
      ∙ ap (λ m. index_of kept (p % m)) (sym is_first.count) in
      let bottom : drop (length kept) is ≡ index_of other (p / m) =
      drop-index_of kept other p
      ∙ ap (λ m. index_of other (p / m)) (sym is_first.count) in
      ap wrap (ap (λ n. sum_to (λ q. first (p % m) q *ℤ second (p / m) q) n) is_first.len
      ∙ sum_to-ext _ _ (size_of dims)
      (λ q h.
      let here : q < n = omega (arith, is_first.len) in
      let there : q < n' = omega (arith, is_second.len, ap size_of same_dims) in
      let left : first (p % m) q
      ≡ a (place ds (merged (firsts pairs) ds (index_of dims q)
      (take (length kept) is))) =
      is_first.each (p % m) q row here
      ∙ ap (λ l. a (place ds (merged (firsts pairs) ds (index_of dims q) l))) (sym top) in
      let right : second (p / m) q
      ≡ b (place es (merged (seconds pairs) es (index_of dims q)
      (drop (length kept) is))) =
      is_second.each (p / m) q column there
      ∙ ap (λ ds. b (place es (merged (seconds pairs) es (index_of ds q) (index_of other
      (p / m)))))
      (sym same_dims)
      ∙ ap (λ l. b (place es (merged (seconds pairs) es (index_of dims q) l)))
      (sym bottom) in
      cc (left, right)))
      ∙ sym (contracted-sum_to pairs ds es (λ js. a (place ds js))
      (λ js. b (place es js)) is)

  -- the result has a value for each row of the first and each row of the second
  row_count-outer_dims : w * m ≡ size_of (outer_dims pairs ds es)
  row_count-outer_dims =
      let whole = size_of-append (other_dims (firsts pairs) ds) (other_dims (seconds pairs) es) in
      rw (is_second.count, is_first.count) (omega (arith, whole))

  -- the rows of both give the contraction
  pub rows-contraction : IsContraction pairs ds es a b (w * m) (rows_dot m n first second)
  rows-contraction = record {
    total = row_count-outer_dims;
    each = rows_dot-contracted;
  }

-- so do rows that hold other values, which are those of both operands at all places
pub same-contraction : (pairs : List (ℕ × ℕ)) (ds es : List ℕ) (a b of on : ℕ → ℤ) (m n w n' : ℕ)
    (first second : ℕ → ℕ → ℤ) (axes others : List ℕ)
    → IsOk (contracted_dims widest pairs ds es)
    → ((p : ℕ) → p < size_of ds → of p ≡ a p) → ((p : ℕ) → p < size_of es → on p ≡ b p)
    → IsOperand m n first of ds axes → axes ≡ firsts pairs
    → IsOperand w n' second on es others → others ≡ seconds pairs
    → IsContraction pairs ds es a b (w * m) (rows_dot m n first second)
same-contraction pairs ds es a b of on m n w n' first second axes others legal left right is_first
    are_firsts is_second are_seconds =
    let known = contraction-known pairs ds es legal in
    rows-contraction pairs ds es a b m n w n' first second axes others legal
    (operand-same m n first of a ds axes (rw are_firsts known.first) left is_first) are_firsts
    (operand-same w n' second on b es others (rw are_seconds known.second) right is_second)
    are_seconds
