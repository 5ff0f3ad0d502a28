-- The values of reductions and contractions, as their loops find them.
use Rattle.std.proofs.Common.{◌≡◌, ℕ, ◌+◌, ◌-◌, ◌<◌, ◌≤◌, ◌/◌, ◌%◌, ℤ, pos, ◌+ℤ◌, ◌*ℤ◌, List, []}
use Rattle.std.proofs.Common.{length, map, take, true, IsOk, ap, subst, sym, ◌∙◌, arith}
use Rattle.std.specs.Int.{w64}
use Rattle.std.specs.List.{fold, range_with_len}
use Rattle.std.specs.Prelude.{FitsSigned}
use Rattle.std.specs.Result.{result_unwrap_or}
use Rattle.std.proofs.lemmas.Int.{int_wrap_fits}
use Rattle.tensor_shape.specs.Legal.{widest}
use Rattle.tensor_shape.specs.Index.{size_of, place, index_of}
use Rattle.tensor_shape.specs.Wrap.{wrap}
use Rattle.tensor_shape.proofs.Places.{index_of-place}
use Rattle.tensor_terms.specs.Contents.{Contents}
use Rattle.tensor_terms.specs.Contraction.{firsts, seconds, outer_dims, contracted, contracted_dims}
use Rattle.tensor_terms.specs.private.Pairing.{IsPairing}
use Rattle.tensor_values.specs.Combining.{combine, unit}
use Rattle.tensor_terms.specs.Reduction.{reduced, reduced_dims, are_axes}
use Rattle.tensor_terms.specs.Result.{dims_of, shape_of}
use Rattle.tensor_terms.specs.Term.{Term, unary, binary, reduce, contract}
use Rattle.tensor_terms.specs.Value.{value, value_of_place}
use Rattle.tensor_terms.specs.Merged.{among, dims_at, other_dims, merged}
use Rattle.tensor_terms.specs.declared.cursor.Pairing.{Pairing}
use Rattle.tensor_values.specs.declared.reducer.Reducer.{Reducer}
use Rattle.tensor_terms.proofs.Dropped.{length-pairs, other_dims-among}
use Rattle.tensor_terms.proofs.Combined.{along_dropped, product_at, fold-next, fold-last, wrap-next}
use Rattle.tensor_terms.proofs.Combined.{reduced-fold, contracted-fold}
use Rattle.tensor_terms.proofs.Known.{IsContraction, reduction-known, contraction-known}
use Rattle.tensor_terms.proofs.OtherAxes.{are_axes-among}
use Rattle.tensor_terms.proofs.TwoParts.{IsIndexOf-parts, InParts, in_parts}
use Rattle.tensor_terms.proofs.Shapes.{with_one-known, with_two-known}

module _ (inputs : List Contents) where
  -- the place of an index list in two parts holds the term's value there
  pub value-parts : (t : Term) (axes : List ℕ) (j i read : ℕ)
      → are_axes (length (shape_of t inputs)) axes ≡ true
      → j < size_of (dims_at axes (shape_of t inputs))
      → i < size_of (other_dims axes (shape_of t inputs))
      → read ≡ place (shape_of t inputs) (merged axes (shape_of t inputs)
      (index_of (dims_at axes (shape_of t inputs)) j) (index_of (other_dims axes
      (shape_of t inputs)) i))
      → value_of_place t inputs read ≡ value t inputs (merged axes (shape_of t inputs)
      (index_of (dims_at axes (shape_of t inputs)) j) (index_of (other_dims axes
      (shape_of t inputs)) i))
  value-parts t axes j i read legal inner outer at =
      let ds : List ℕ = shape_of t inputs in
      ap (value_of_place t inputs) at
      ∙ ap (value t inputs) (index_of-place ds (merged axes ds (index_of (dims_at axes ds) j)
      (index_of (other_dims axes ds) i))
      (IsIndexOf-parts axes ds legal j i inner outer))

  module _ (r : Reducer) (axes : List ℕ) (a : Term) where
    -- what is known of a reduction that has result dims
    pub record IsReduced : Type 0 where
      pub operand : IsOk (dims_of widest a inputs)
      pub legal : are_axes (length (shape_of a inputs)) axes ≡ true
      pub shape : shape_of (unary (reduce r axes) a) inputs ≡ other_dims axes (shape_of a inputs)

    pub reduced-known : IsOk (dims_of widest (unary (reduce r axes) a) inputs) → IsReduced
    reduced-known h =
        let one = with_one-known (reduced_dims axes) (dims_of widest a inputs) h in
        let known = reduction-known axes (shape_of a inputs) (subst (λ s. IsOk s) one.1 h) in
        record {
          operand = one.0;
          legal = known.legal;
          shape =
              ap (λ s. result_unwrap_or s []) (one.1 ∙ known.dims);
        }

    -- its value is the combination of all values along the dropped axes
    pub reduced-value : IsReduced → (p : ℕ) → value_of_place (unary (reduce r axes) a) inputs p
        ≡ fold (combine r) (unit r) (map (along_dropped axes (shape_of a inputs) (value a inputs)
        (index_of (other_dims axes (shape_of a inputs)) p))
        (range_with_len 0 (size_of (dims_at (among axes (length (shape_of a inputs)))
        (shape_of a inputs)))))
    reduced-value known p =
        ap (λ s. reduced r axes (shape_of a inputs) (value a inputs) (index_of s p)) known.shape
        ∙ reduced-fold r axes (shape_of a inputs) (value a inputs) (index_of (other_dims axes
        (shape_of a inputs)) p)

    -- one of them
    pub reduced-step : (k p read : ℕ)
        → k < size_of (dims_at (among axes (length (shape_of a inputs))) (shape_of a inputs))
        → p < size_of (other_dims axes (shape_of a inputs))
        → read ≡ place (shape_of a inputs) (merged (among axes (length (shape_of a inputs)))
        (shape_of a inputs)
        (index_of (dims_at (among axes (length (shape_of a inputs))) (shape_of a inputs)) k)
        (index_of (other_dims (among axes (length (shape_of a inputs))) (shape_of a inputs)) p))
        → value_of_place a inputs read ≡ along_dropped axes (shape_of a inputs) (value a inputs)
        (index_of (other_dims axes (shape_of a inputs)) p) k
    reduced-step k p read inner outer at =
        let ds : List ℕ = shape_of a inputs in
        let dropped : List ℕ = among axes (length ds) in
        let same = other_dims-among ds axes in
        let outside : p < size_of (other_dims dropped ds) = omega (arith, ap size_of same) in
        value-parts a dropped k p read (are_axes-among axes (length ds)) inner outside at
        ∙ ap (λ es. value a inputs (merged dropped ds (index_of (dims_at dropped ds) k)
        (index_of es p))) same

    -- where the loop of a reduction stands: with the values from a place of the dropped dims on the
    -- value gives the whole
    abbrev pub ReducedFrom : ℤ → ℕ → ℕ → ℕ → Type 0
    ReducedFrom v k count p =
        fold (combine r) v (map (along_dropped axes (shape_of a inputs) (value a inputs) (index_of
        (other_dims axes (shape_of a inputs)) p))
        (range_with_len k (count - k)))
        ≡ value_of_place (unary (reduce r axes) a) inputs p

    -- what the loop goes over
    pub record ReducedOver (d xs : List ℕ) (count : ℕ) : Type 0 where
      pub dims : d ≡ shape_of a inputs
      pub dropped : xs ≡ among axes (length d)
      pub whole : count ≡ size_of (dims_at xs d)

    reduced-count : (d xs : List ℕ) (count : ℕ) → ReducedOver d xs count
        → count ≡ size_of (dims_at (among axes (length (shape_of a inputs))) (shape_of a inputs))
    reduced-count d xs count over =
        over.whole ∙ ap (λ ys. size_of (dims_at ys d)) over.dropped
        ∙ ap (λ e. size_of (dims_at (among axes (length e)) e)) over.dims

    pub reduced-init : IsOk (dims_of widest (unary (reduce r axes) a) inputs)
        → (d xs : List ℕ) (v : ℤ) (count p : ℕ) → ReducedOver d xs count
        → v ≡ unit r → ReducedFrom v 0 count p
    reduced-init has_dims d xs v count p over start =
        let g : ℕ → ℤ = along_dropped axes (shape_of a inputs) (value a inputs) (index_of
        (other_dims axes (shape_of a inputs)) p) in
        let all : count - 0 ≡ size_of (dims_at (among axes (length (shape_of a inputs)))
        (shape_of a inputs)) =
        omega (arith, reduced-count d xs count over) in
        ap (λ w. fold (combine r) w (map g (range_with_len 0 (count - 0)))) start
        ∙ ap (λ n. fold (combine r) (unit r) (map g (range_with_len 0 n))) all
        ∙ sym (reduced-value (reduced-known has_dims) p)

    pub reduced-next : IsOk (dims_of widest (unary (reduce r axes) a) inputs)
        → (d xs : List ℕ) (v w x : ℤ) (k count p read : ℕ)
        → ReducedOver d xs count → k < count
        → p < size_of (shape_of (unary (reduce r axes) a) inputs)
        → read ≡ place d (merged xs d (index_of (dims_at xs d) k) (index_of (other_dims xs d) p))
        → x ≡ value_of_place a inputs read → w ≡ combine r v x → ReducedFrom v k count p
        → ReducedFrom w (k + 1) count p
    reduced-next has_dims d xs v w x k count p read over below inside at is_x is_w so_far =
        let known = reduced-known has_dims in
        let ds : List ℕ = shape_of a inputs in
        let g : ℕ → ℤ = along_dropped axes ds (value a inputs) (index_of (other_dims axes ds) p) in
        let place_at : List ℕ → List ℕ → ℕ =
        λ ys e. place e (merged ys e (index_of (dims_at ys e) k) (index_of (other_dims ys e) p)) in
        let there : read ≡ place_at (among axes (length ds)) ds =
        at ∙ ap (λ ys. place_at ys d) over.dropped
        ∙ ap (λ e. place_at (among axes (length e)) e) over.dims in
        let step : x ≡ g k =
        is_x ∙ reduced-step k p read (omega (arith, reduced-count d xs count over)) (omega (
          arith,
          ap size_of known.shape,
        )) there in
        ap (λ u. fold (combine r) u (map g (range_with_len (k + 1) (count - (k + 1))))) (is_w
        ∙ ap (combine r v) step)
        ∙ sym (fold-next (combine r) g v k count below)
        ∙ so_far

    pub reduced-last : (v : ℤ) (k count p : ℕ) → count ≡ k → ReducedFrom v k count p
        → v ≡ value_of_place (unary (reduce r axes) a) inputs p
    reduced-last v k count p done so_far =
        sym (fold-last (combine r) (along_dropped axes (shape_of a inputs) (value a inputs)
        (index_of (other_dims axes (shape_of a inputs)) p)) v k count done)
        ∙ so_far

  module _ (pairs : List (ℕ × ℕ)) (a b : Term) where
    -- what is known of a contraction that has result dims
    pub record IsContracted : Type 0 where
      pub left : IsOk (dims_of widest a inputs)
      pub right : IsOk (dims_of widest b inputs)
      pub known : IsContraction pairs (shape_of a inputs) (shape_of b inputs)
      pub few : length pairs ≤ length (shape_of a inputs)
      pub shape : shape_of (binary (contract pairs) a b) inputs
          ≡ outer_dims pairs (shape_of a inputs) (shape_of b inputs)

    pub contracted-known : IsOk (dims_of widest (binary (contract pairs) a b) inputs) → IsContracted
    contracted-known h =
        let two = with_two-known (contracted_dims widest pairs) (dims_of widest a inputs) (dims_of widest b inputs) h in
        let has = subst (λ s. IsOk s) two.2 h in
        let known = contraction-known pairs (shape_of a inputs) (shape_of b inputs) has in
        record {
          left = two.0;
          right = two.1;
          known = known;
          few = length-pairs pairs (shape_of a inputs) (shape_of b inputs) has;
          shape =
              ap (λ s. result_unwrap_or s []) (two.2 ∙ known.dims);
        }

    -- its value is the sum of all products along the paired axes
    pub contracted-value : IsContracted → (p : ℕ)
        → value_of_place (binary (contract pairs) a b) inputs p
        ≡ wrap (fold ◌+ℤ◌ (pos 0) (map (product_at pairs (shape_of a inputs) (shape_of b inputs)
        (value a inputs) (value b inputs)
        (index_of (outer_dims pairs (shape_of a inputs) (shape_of b inputs)) p))
        (range_with_len 0 (size_of (dims_at (firsts pairs) (shape_of a inputs))))))
    contracted-value known p =
        ap (λ s. contracted pairs (shape_of a inputs) (shape_of b inputs) (value a inputs)
        (value b inputs) (index_of s p)) known.shape
        ∙ contracted-fold pairs (shape_of a inputs) (shape_of b inputs) (value a inputs)
        (value b inputs)
        (index_of (outer_dims pairs (shape_of a inputs) (shape_of b inputs)) p)

    -- both parts of a place of the result
    pub contracted-parts : IsContracted → (p : ℕ)
        → p < size_of (shape_of (binary (contract pairs) a b) inputs)
        → InParts (other_dims (firsts pairs) (shape_of a inputs)) (other_dims (seconds pairs)
        (shape_of b inputs)) p
    contracted-parts known p below =
        in_parts (other_dims (firsts pairs) (shape_of a inputs)) (other_dims (seconds pairs)
        (shape_of b inputs)) p
        (omega (arith, ap size_of known.shape))

    -- one of the products
    pub contracted-step : IsContracted → (k p left right : ℕ)
        → k < size_of (dims_at (firsts pairs) (shape_of a inputs))
        → p < size_of (shape_of (binary (contract pairs) a b) inputs)
        → left ≡ place (shape_of a inputs) (merged (firsts pairs) (shape_of a inputs)
        (index_of (dims_at (firsts pairs) (shape_of a inputs)) k)
        (index_of (other_dims (firsts pairs) (shape_of a inputs)) (p % size_of (other_dims
        (firsts pairs) (shape_of a inputs)))))
        → right ≡ place (shape_of b inputs) (merged (seconds pairs) (shape_of b inputs)
        (index_of (dims_at (seconds pairs) (shape_of b inputs)) k)
        (index_of (other_dims (seconds pairs) (shape_of b inputs)) (p / size_of (other_dims
        (firsts pairs) (shape_of a inputs)))))
        → value_of_place a inputs left *ℤ value_of_place b inputs right
        ≡ product_at pairs (shape_of a inputs) (shape_of b inputs) (value a inputs) (value b inputs)
        (index_of (outer_dims pairs (shape_of a inputs) (shape_of b inputs)) p) k
    contracted-step is k p left right inner below at_left at_right =
        let ds : List ℕ = shape_of a inputs in
        let es : List ℕ = shape_of b inputs in
        let outer = contracted-parts is p below in
        let paired : dims_at (firsts pairs) ds ≡ dims_at (seconds pairs) es = is.known.paired in
        let inside : k < size_of (dims_at (seconds pairs) es) = omega (arith, ap size_of paired) in
        let first = value-parts a (firsts pairs) k (p % size_of (other_dims
        (firsts pairs) ds)) left is.known.first inner outer.inner at_left in
        let second = value-parts b (seconds pairs) k (p / size_of (other_dims
        (firsts pairs) ds)) right is.known.second inside outer.outer at_right in
        ap (λ v. v *ℤ value_of_place b inputs right)
        (first ∙ ap (λ is. value a inputs (merged (firsts pairs) ds (index_of (dims_at
        (firsts pairs) ds) k) is)) (sym outer.first))
        ∙ ap (λ v. value a inputs (merged (firsts pairs) ds (index_of (dims_at (firsts pairs) ds) k)
        (take (length (other_dims (firsts pairs) ds)) (index_of (outer_dims pairs ds es) p))) *ℤ v)
        (second
        ∙ ap (λ ks. value b inputs (merged (seconds pairs) es (index_of ks k) (index_of (other_dims
        (seconds pairs) es)
        (p / size_of (other_dims (firsts pairs) ds))))) (sym paired)
        ∙ ap (λ is. value b inputs (merged (seconds pairs) es (index_of (dims_at
        (firsts pairs) ds) k) is)) (sym outer.second))

    -- where the loop of a contraction stands
    abbrev pub SummedFrom : ℤ → ℕ → ℕ → ℕ → Type 0
    SummedFrom v k count p =
        wrap (fold ◌+ℤ◌ v (map (product_at pairs (shape_of a inputs) (shape_of b inputs)
        (value a inputs) (value b inputs)
        (index_of (outer_dims pairs (shape_of a inputs) (shape_of b inputs)) p))
        (range_with_len k (count - k))))
        ≡ value_of_place (binary (contract pairs) a b) inputs p

    summed-count : (q : Pairing) → IsPairing inputs pairs a b q
        → q.count ≡ size_of (dims_at (firsts pairs) (shape_of a inputs))
    summed-count q over =
        over.whole ∙ ap (λ zs. size_of (dims_at zs q.first)) over.left
        ∙ ap (λ f. size_of (dims_at (firsts pairs) f)) over.first

    pub summed-outer : (q : Pairing) → IsPairing inputs pairs a b q
        → q.outer ≡ size_of (other_dims (firsts pairs) (shape_of a inputs))
    summed-outer q over =
        over.apart ∙ ap (λ zs. size_of (other_dims zs q.first)) over.left
        ∙ ap (λ f. size_of (other_dims (firsts pairs) f)) over.first

    -- what is asked of the places that it reads
    pub record SummedInside (q : Pairing) (k p : ℕ) : Type 0 where
      pub some : 0 < q.outer
      pub axes_left : are_axes (length q.first) q.firsts.items ≡ true
      pub axes_right : are_axes (length q.second) q.seconds.items ≡ true
      pub inner_left : k < size_of (dims_at q.firsts.items q.first)
      pub inner_right : k < size_of (dims_at q.seconds.items q.second)
      pub outer_left : p % q.outer < size_of (other_dims q.firsts.items q.first)
      pub outer_right : p / q.outer < size_of (other_dims q.seconds.items q.second)

    pub summed-inside : IsOk (dims_of widest (binary (contract pairs) a b) inputs)
        → (q : Pairing) (k p : ℕ) → IsPairing inputs pairs a b q → k < q.count
        → p < size_of (shape_of (binary (contract pairs) a b) inputs) → SummedInside q k p
    summed-inside has_dims q k p over below inside =
        let is = contracted-known has_dims in
        let parts = contracted-parts is p inside in
        let at_outer = summed-outer q over in
        let some : 0 < q.outer = omega (arith, parts.inner) in
        record {
          some = some;
          axes_left = ap (λ zs. are_axes (length q.first) zs) over.left
              ∙ ap (λ f. are_axes (length f) (firsts pairs)) over.first ∙ is.known.first;
          axes_right = ap (λ zs. are_axes (length q.second) zs) over.right
              ∙ ap (λ f. are_axes (length f) (seconds pairs)) over.second ∙ is.known.second;
          inner_left = omega (arith, over.whole);
          inner_right = omega (
            arith,
            summed-count q over,
            ap size_of is.known.paired,
            ap (λ zs. size_of (dims_at zs q.second)) over.right,
            ap (λ f. size_of (dims_at (seconds pairs) f)) over.second,
          );
          outer_left = subst (λ n. p % n < size_of (other_dims q.firsts.items q.first))
              (sym at_outer) (omega (arith, parts.inner, at_outer, over.apart));
          outer_right = subst (λ n. p / n < size_of (other_dims q.seconds.items q.second))
              (sym at_outer)
              (omega (
                arith,
                parts.outer,
                ap (λ zs. size_of (other_dims zs q.second)) over.right,
                ap (λ f. size_of (other_dims (seconds pairs) f)) over.second,
              ));
        }

    pub summed-init : IsOk (dims_of widest (binary (contract pairs) a b) inputs)
        → (q : Pairing) (p : ℕ) → IsPairing inputs pairs a b q
        → SummedFrom (pos 0) 0 q.count p
    summed-init has_dims q p over =
        let all : q.count - 0 ≡ size_of (dims_at (firsts pairs) (shape_of a inputs)) =
        omega (arith, summed-count q over) in
        ap (λ n. wrap (fold ◌+ℤ◌ (pos 0) (map (product_at pairs (shape_of a inputs)
        (shape_of b inputs) (value a inputs) (value b inputs)
        (index_of (outer_dims pairs (shape_of a inputs) (shape_of b inputs)) p))
        (range_with_len 0 n)))) all
        ∙ sym (contracted-value (contracted-known has_dims) p)

    pub summed-next : IsOk (dims_of widest (binary (contract pairs) a b) inputs)
        → (q : Pairing) (v w x y : ℤ) (k p left right : ℕ) → IsPairing inputs pairs a b q
        → k < q.count → p < size_of (shape_of (binary (contract pairs) a b) inputs)
        → left ≡ place q.first (merged q.firsts.items q.first
        (index_of (dims_at q.firsts.items q.first) k)
        (index_of (other_dims q.firsts.items q.first) (p % q.outer)))
        → right ≡ place q.second (merged q.seconds.items q.second
        (index_of (dims_at q.seconds.items q.second) k)
        (index_of (other_dims q.seconds.items q.second) (p / q.outer)))
        → x ≡ value_of_place a inputs left → y ≡ value_of_place b inputs right
        → w ≡ wrap (v +ℤ wrap (x *ℤ y))
        → SummedFrom v k q.count p → SummedFrom w (k + 1) q.count p
    summed-next has_dims q v w x y k p left right over below inside at_left at_right is_x is_y is_w
        so_far =
        let ds : List ℕ = shape_of a inputs in
        let es : List ℕ = shape_of b inputs in
        let g : ℕ → ℤ = product_at pairs ds es (value a inputs) (value b inputs) (index_of
        (outer_dims pairs ds es) p) in
        let place_at : List ℕ → List ℕ → ℕ
        → ℕ = λ zs f i. place f (merged zs f (index_of (dims_at zs f) k) (index_of
        (other_dims zs f) i)) in
        let at_outer = summed-outer q over in
        let there_left : left ≡ place_at (firsts pairs) ds (p % size_of (other_dims
        (firsts pairs) ds)) =
        at_left ∙ ap (λ zs. place_at zs q.first (p % q.outer)) over.left
        ∙ ap (λ f. place_at (firsts pairs) f (p % q.outer)) over.first
        ∙ ap (λ n. place_at (firsts pairs) ds (p % n)) at_outer in
        let there_right : right ≡ place_at (seconds pairs) es (p / size_of (other_dims
        (firsts pairs) ds)) =
        at_right ∙ ap (λ zs. place_at zs q.second (p / q.outer)) over.right
        ∙ ap (λ f. place_at (seconds pairs) f (p / q.outer)) over.second
        ∙ ap (λ n. place_at (seconds pairs) es (p / n)) at_outer in
        let step : x *ℤ y ≡ g k =
        ap (λ z. z *ℤ y) is_x ∙ ap (λ z. value_of_place a inputs left *ℤ z) is_y
        ∙ contracted-step (contracted-known has_dims) k p left right (omega (
          arith,
          summed-count q over,
        )) inside there_left there_right in
        let rest : List ℤ = map g (range_with_len (k + 1) (q.count - (k + 1))) in
        ap (λ u. wrap (fold ◌+ℤ◌ u rest)) (is_w ∙ ap (λ z. wrap (v +ℤ wrap z)) step)
        ∙ wrap-next rest v (g k)
        ∙ ap wrap (sym (fold-next ◌+ℤ◌ g v k q.count below))
        ∙ so_far

    pub summed-last : (v : ℤ) (k count p : ℕ) → FitsSigned w64 v → count ≡ k
        → SummedFrom v k count p
        → v ≡ value_of_place (binary (contract pairs) a b) inputs p
    summed-last v k count p fits done so_far =
        sym (int_wrap_fits w64 v fits)
        ∙ ap wrap (sym (fold-last ◌+ℤ◌ (product_at pairs (shape_of a inputs) (shape_of b inputs)
        (value a inputs) (value b inputs)
        (index_of (outer_dims pairs (shape_of a inputs) (shape_of b inputs)) p)) v k count done))
        ∙ so_far
