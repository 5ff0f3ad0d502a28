-- The values of convolutions, as their loop finds them.
use Rattle.std.proofs.Common.{◌≡◌, ℕ, ◌+◌, ◌-◌, ◌<◌, ℤ, pos, ◌+ℤ◌, ◌*ℤ◌, List, [], map, Ok, IsOk}
use Rattle.std.proofs.Common.{ap, sym, ◌∙◌, arith}
use Rattle.std.specs.Int.{w64}
use Rattle.std.specs.List.{fold, range_with_len}
use Rattle.std.specs.Prelude.{FitsSigned}
use Rattle.std.specs.Result.{result_unwrap_or}
use Rattle.std.proofs.lemmas.Int.{int_wrap_fits}
use Rattle.tensor_shape.specs.Legal.{widest}
use Rattle.tensor_shape.specs.Index.{size_of, IsIndexOf, place, index_of}
use Rattle.tensor_shape.specs.Wrap.{wrap}
use Rattle.tensor_shape.proofs.Places.{index_of-place}
use Rattle.tensor_terms.specs.Contents.{Contents}
use Rattle.tensor_terms.specs.Convolution.{window_index, convolved_dims}
use Rattle.tensor_terms.specs.Result.{dims_of, shape_of}
use Rattle.tensor_terms.specs.Term.{Term, binary, convolve}
use Rattle.tensor_terms.specs.Value.{value, value_of_place}
use Rattle.tensor_terms.proofs.Combined.{fold-next, fold-last, wrap-next}
use Rattle.tensor_terms.proofs.Convolutions.{product_under, convolved-fold}
use Rattle.tensor_terms.proofs.Shapes.{Ok-unwrap, with_two-known}
use Rattle.tensor_terms.proofs.Convolutions.{IsIndexOf-under}

module _ (inputs : List Contents) (axes : List ℕ) (a b : Term) where
  -- what is known of a convolution that has result dims
  pub record IsConvolved : Type 0 where
    pub left : IsOk (dims_of widest a inputs)
    pub right : IsOk (dims_of widest b inputs)
    pub dims : convolved_dims widest axes (shape_of a inputs) (shape_of b inputs)
        ≡ Ok (shape_of (binary (convolve axes) a b) inputs)

  pub convolved-known : IsOk (dims_of widest (binary (convolve axes) a b) inputs) → IsConvolved
  convolved-known h =
      let two = with_two-known (convolved_dims widest axes) (dims_of widest a inputs)
      (dims_of widest b inputs) h in
      record {
        left = two.0;
        right = two.1;
        dims = sym two.2 ∙ Ok-unwrap (dims_of widest (binary (convolve axes) a b) inputs) h;
      }

  -- where the loop stands: with the products from a place of the kernel on the value gives the whole
  abbrev pub WindowFrom : ℤ → ℕ → ℕ → ℕ → Type 0
  WindowFrom v k count p =
      wrap (fold ◌+ℤ◌ v (map (product_under axes (shape_of b inputs) (value a inputs)
      (value b inputs) (index_of (shape_of (binary (convolve axes) a b) inputs) p))
      (range_with_len k (count - k))))
      ≡ value_of_place (binary (convolve axes) a b) inputs p

  -- what it goes over
  pub record WindowOver (ds ks rs : List ℕ) (count : ℕ) : Type 0 where
    pub operand : ds ≡ shape_of a inputs
    pub kernel : ks ≡ shape_of b inputs
    pub dims : convolved_dims widest axes ds ks ≡ Ok rs
    pub whole : count ≡ size_of ks

  window_index-shape : (ds ks rs : List ℕ) (count : ℕ) → IsConvolved → WindowOver ds ks rs count
      → rs ≡ shape_of (binary (convolve axes) a b) inputs
  window_index-shape ds ks rs count is over =
      ap (λ r. result_unwrap_or r []) (sym over.dims
      ∙ ap (λ d. convolved_dims widest axes d ks) over.operand
      ∙ ap (λ e. convolved_dims widest axes (shape_of a inputs) e) over.kernel ∙ is.dims)

  -- a place of the result, within what the loop's dims have
  pub window_index-outer : IsOk (dims_of widest (binary (convolve axes) a b) inputs)
      → (ds ks rs : List ℕ) (count p : ℕ) → WindowOver ds ks rs count
      → p < size_of (shape_of (binary (convolve axes) a b) inputs) → p < size_of rs
  window_index-outer has_dims ds ks rs count p over inside =
      omega (arith, ap size_of (window_index-shape ds ks rs count (convolved-known has_dims) over))

  pub window_index-init : (ds ks rs : List ℕ) (count p : ℕ) → WindowOver ds ks rs count
      → WindowFrom (pos 0) 0 count p
  window_index-init ds ks rs count p over =
      let all : count - 0 ≡ size_of (shape_of b inputs) =
      omega (arith, over.whole, ap size_of over.kernel) in
      ap (λ n. wrap (fold ◌+ℤ◌ (pos 0) (map (product_under axes (shape_of b inputs)
      (value a inputs) (value b inputs) (index_of (shape_of (binary (convolve axes) a b) inputs) p))
      (range_with_len 0 n)))) all
      ∙ sym (convolved-fold axes (shape_of b inputs) (value a inputs) (value b inputs)
      (index_of (shape_of (binary (convolve axes) a b) inputs) p))

  pub window_index-next : IsOk (dims_of widest (binary (convolve axes) a b) inputs)
      → (ds ks rs : List ℕ) (v w x y : ℤ) (k count p read : ℕ) → WindowOver ds ks rs count
      → k < count → p < size_of (shape_of (binary (convolve axes) a b) inputs)
      → read ≡ place ds (window_index axes (index_of ks k) (index_of rs p))
      → x ≡ value_of_place a inputs read → y ≡ value_of_place b inputs k
      → w ≡ wrap (v +ℤ wrap (x *ℤ y)) → WindowFrom v k count p → WindowFrom w (k + 1) count p
  window_index-next has_dims ds ks rs v w x y k count p read over below inside at is_x is_y is_w so_far =
      let shape = window_index-shape ds ks rs count (convolved-known has_dims) over in
      let g : ℕ → ℤ = product_under axes (shape_of b inputs) (value a inputs) (value b inputs)
      (index_of (shape_of (binary (convolve axes) a b) inputs) p) in
      let under : IsIndexOf ds (window_index axes (index_of ks k) (index_of rs p)) =
      IsIndexOf-under axes ds ks rs over.dims p k (omega (arith, ap size_of shape))
      (omega (arith, over.whole)) in
      let back : index_of (shape_of a inputs) read
      ≡ window_index axes (index_of (shape_of b inputs) k)
      (index_of (shape_of (binary (convolve axes) a b) inputs) p) =
      ap (index_of (shape_of a inputs)) at
      ∙ ap (λ d. index_of d (place ds (window_index axes (index_of ks k) (index_of rs p)))) (sym over.operand)
      ∙ index_of-place ds (window_index axes (index_of ks k) (index_of rs p)) under
      ∙ ap (λ e. window_index axes (index_of e k) (index_of rs p)) over.kernel
      ∙ ap (λ e. window_index axes (index_of (shape_of b inputs) k) (index_of e p)) shape in
      let step : x *ℤ y ≡ g k =
      ap (λ z. z *ℤ y) (is_x ∙ ap (value a inputs) back)
      ∙ ap (λ z. value a inputs (window_index axes (index_of (shape_of b inputs) k)
      (index_of (shape_of (binary (convolve axes) a b) inputs) p)) *ℤ z) is_y in
      let rest : List ℤ = map g (range_with_len (k + 1) (count - (k + 1))) in
      ap (λ u. wrap (fold ◌+ℤ◌ u rest)) (is_w ∙ ap (λ z. wrap (v +ℤ wrap z)) step)
      ∙ wrap-next rest v (g k)
      ∙ ap wrap (sym (fold-next ◌+ℤ◌ g v k count below))
      ∙ so_far

  pub window_index-last : (v : ℤ) (k count p : ℕ) → FitsSigned w64 v → count ≡ k → WindowFrom v k count p
      → v ≡ value_of_place (binary (convolve axes) a b) inputs p
  window_index-last v k count p fits done so_far =
      sym (int_wrap_fits w64 v fits)
      ∙ ap wrap (sym (fold-last ◌+ℤ◌ (product_under axes (shape_of b inputs) (value a inputs)
      (value b inputs) (index_of (shape_of (binary (convolve axes) a b) inputs) p)) v k count done))
      ∙ so_far
