-- A term whose operands are the same tensors as another's is the same tensor.
use Rattle.std.proofs.Common.{◌≡◌, ℕ, ℤ, List, [], get_or, Ok, IsOk, refl, ap, sym, subst, ◌∙◌}
use Rattle.std.proofs.Common.{arith, inl, inr}
use Rattle.std.proofs.lemmas.Bool.{cases_Bool}
use Rattle.std.specs.Cmp.Lexicographic.{pointwise, same_text}
use Rattle.std.specs.Prelude.{nat_eq}
use Rattle.std.specs.Result.{result_unwrap_or}
use Rattle.tensor_shape.specs.Legal.{widest}
use Rattle.tensor_shape.specs.Index.{size_of, IsIndexOf, index_of}
use Rattle.tensor_shape.proofs.Places.{IsIndexOf-index_of}
use Rattle.tensor_terms.specs.Along.{replaced_dims}
use Rattle.tensor_terms.specs.Concatenation.{joined_dims}
use Rattle.tensor_terms.specs.Contents.{Contents, input_of, value_at}
use Rattle.tensor_terms.specs.Contraction.{outer_dims}
use Rattle.tensor_terms.specs.Convolution.{window_dims}
use Rattle.tensor_terms.specs.Movement.{moved}
use Rattle.tensor_terms.specs.Padding.{padded_dims}
use Rattle.tensor_terms.specs.Result.{dims_of, shape_of, unary_dims, binary_dims, ternary_dims}
use Rattle.tensor_values.specs.Scalars.{applied}
use Rattle.tensor_terms.specs.Shaped.{with_one, with_two, with_three, equal_dims}
use Rattle.tensor_terms.specs.Term.{Term, input, unary, binary, ternary}
use Rattle.tensor_terms.specs.Term.{Unary, each, constant, movement, pad, reduce, along, Binary, pairwise}
use Rattle.tensor_terms.specs.Term.{concat, contract, convolve, taking, Ternary, select}
use Rattle.tensor_terms.specs.Value.{value, value_of_place, tensor_of, unary_value, binary_value}
use Rattle.tensor_terms.specs.Value.{ternary_value}
use Rattle.tensor_terms.specs.Merged.{other_dims}
use Rattle.tensor_terms.proofs.AlongTerms.{along-known, along-other, own_dims, taken-known, taken-other}
use Rattle.tensor_terms.proofs.Convolutions.{convolved-other}
use Rattle.tensor_ops.proofs.Evaluated.{map-values_from, value_at-tensor_of, tensor_of-made}
use Rattle.tensor_terms.proofs.Known.{reduction-known, contraction-known, convolution-known}
use Rattle.tensor_terms.proofs.Moved.{IsIndexOf-moved}
use Rattle.tensor_terms.proofs.Pads.{pad-known, padded-other}
use Rattle.tensor_terms.proofs.SameValues.{Agree, reduced-other, contracted-other}
use Rattle.tensor_terms.proofs.Shapes.{Ok-unwrap, with_one-known, with_two-known, with_three-known}
use Rattle.tensor_terms.proofs.InterleavedTerms.{concatenated-other}
use Rattle.tensor_terms.proofs.Interleavings.{concatenation-known}

-- dims that are equal
pub equal_dims-known : (ds es rs : List ℕ) → equal_dims ds es ≡ Ok rs → (ds ≡ es) × (rs ≡ ds)
equal_dims-known ds es rs dims =
    elim (cases_Bool (pointwise nat_eq ds es)) [
      | inl same ↦ let known = rw same at dims in (same_text ds es (sym same), (cc))
      | inr other ↦ let known = rw other at dims in (cc)
    ]

-- operations on operands that agree
pub agree-unary : (o : Unary) (ds rs : List ℕ) (f g : List ℕ → ℤ) → unary_dims widest o ds ≡ Ok rs
    → Agree ds f g
    → Agree rs (unary_value o ds f) (unary_value o ds g)
agree-unary (each o) ds rs f g dims same index inside =
    ap (applied o) (same index (subst (λ d. IsIndexOf d index) (cc dims) inside))
agree-unary (constant v) ds rs f g dims same index inside = refl
agree-unary (movement m) ds rs f g dims same index inside =
    same (moved m ds index) (IsIndexOf-moved m ds rs index dims inside)
agree-unary (pad pairs) ds rs f g dims same index inside =
    let known = pad-known pairs ds (rw dims refl) in
    let result : rs ≡ padded_dims pairs ds = (cc known.dims) in
    padded-other pairs ds f g known.long same index (subst (λ d. IsIndexOf d index) result inside)
agree-unary (reduce r axes) ds rs f g dims same index inside =
    let known = reduction-known axes ds (rw dims refl) in
    let result : rs ≡ other_dims axes ds = (cc known.dims) in
    reduced-other r axes ds f g same index (subst (λ d. IsIndexOf d index) result inside)
agree-unary (along o axis) ds rs f g dims same index inside =
    let known = along-known o axis ds (rw dims refl) in
    let result : rs ≡ replaced_dims axis (own_dims o (get_or ds axis 0)) ds = (cc known.dims) in
    along-other o axis ds f g known.inside same index (subst (λ d. IsIndexOf d index) result inside)

pub agree-binary : (o : Binary) (ds es rs : List ℕ) (f g h k : List ℕ → ℤ)
    → binary_dims widest o ds es ≡ Ok rs → Agree ds f g → Agree es h k
    → Agree rs (binary_value o ds es f h) (binary_value o ds es g k)
agree-binary (pairwise o) ds es rs f g h k dims first second index inside =
    let known = equal_dims-known ds es rs dims in
    let here : IsIndexOf ds index = subst (λ d. IsIndexOf d index) known.1 inside in
    let a = first index here in
    let b = second index (subst (λ d. IsIndexOf d index) known.0 here) in
    (cc)
agree-binary (concat axis) ds es rs f g h k dims first second index inside =
    let known = concatenation-known axis ds es (rw dims refl) in
    let result : rs ≡ joined_dims axis ds es = (cc known.dims) in
    concatenated-other axis ds es f g h k known first second index (subst (λ d. IsIndexOf d index) result inside)
agree-binary (contract pairs) ds es rs f g h k dims first second index inside =
    let known = contraction-known pairs ds es (rw dims refl) in
    let result : rs ≡ outer_dims pairs ds es = (cc known.dims) in
    contracted-other pairs ds es f g h k known first second index
    (subst (λ d. IsIndexOf d index) result inside)
agree-binary (convolve axes) ds es rs f g h k dims first second index inside =
    let known = convolution-known axes ds es (rw dims refl) in
    let result : rs ≡ window_dims axes es ds = (cc known.dims) in
    convolved-other axes ds es f g h k known first second index
    (subst (λ d. IsIndexOf d index) result inside)
agree-binary (taking axis) ds es rs f g h k dims first second index inside =
    let known = taken-known axis ds es (rw dims refl) in
    let result : rs ≡ replaced_dims axis es ds = (cc known.dims) in
    taken-other axis ds es f g h k known.inside first second index
    (subst (λ d. IsIndexOf d index) result inside)

pub agree-ternary : (o : Ternary) (cs ds es rs : List ℕ) (e f g h k l : List ℕ → ℤ)
    → ternary_dims o cs ds es ≡ Ok rs
    → Agree cs e f → Agree ds g h → Agree es k l
    → Agree rs (ternary_value o e g k) (ternary_value o f h l)
agree-ternary select cs ds es rs e f g h k l dims first second third index inside =
    let both = with_one-known (λ d. equal_dims d es) (equal_dims cs ds) (rw dims refl) in
    let front = equal_dims-known cs ds (result_unwrap_or (equal_dims cs ds) [])
    (Ok-unwrap (equal_dims cs ds) both.0) in
    let last = equal_dims-known (result_unwrap_or (equal_dims cs ds) []) es rs (sym both.1 ∙ dims)
    in
    let here : IsIndexOf cs index = subst (λ d. IsIndexOf d index) (last.1 ∙ front.1) inside in
    let a = first index here in
    let b = second index (subst (λ d. IsIndexOf d index) front.0 here) in
    let c = third index (subst (λ d. IsIndexOf d index) (sym front.1 ∙ last.0) here) in
    (cc)

-- a term over some tensors is the tensor that another is over others
pub record IsSameTensor (s : Term) (ss : List Contents) (t : Term) (ts : List Contents) : Type 0
  where
    pub dims : dims_of widest s ss ≡ dims_of widest t ts
    pub values : Agree (shape_of t ts) (value s ss) (value t ts)

module _ (ss ts : List Contents) where
  -- a tensor that was computed
  pub same-worked_out : (n : ℕ) (t : Term) → IsOk (dims_of widest t ts) → input_of ss n ≡ tensor_of t ts
      → IsSameTensor (input n) ss t ts
  same-worked_out n t has here = record {
    dims = ap (λ x. Ok x.dims) here ∙ sym (Ok-unwrap (dims_of widest t ts) has);
    values = λ index inside. ap (λ x. value_at x index) here ∙ value_at-tensor_of ts t index inside;
  }

  -- an input
  pub same-input : (n : ℕ) → input_of ss n ≡ input_of ts n → IsSameTensor (input n) ss (input n) ts
  same-input n here = record {
    dims = ap (λ x. Ok x.dims) here;
    values = λ index inside. ap (λ x. value_at x index) here;
  }

  pub same-unary : (o : Unary) (s t : Term) → IsOk (dims_of widest (unary o t) ts) → IsSameTensor s ss t ts
      → IsSameTensor (unary o s) ss (unary o t) ts
  same-unary o s t has same =
      let known = with_one-known (unary_dims widest o) (dims_of widest t ts) has in
      let shape : shape_of s ss ≡ shape_of t ts = ap (λ r. result_unwrap_or r []) same.dims in
      let dims : unary_dims widest o (shape_of t ts) ≡ Ok (shape_of (unary o t) ts) =
      sym known.1 ∙ Ok-unwrap (dims_of widest (unary o t) ts) has in
      record {
        dims = ap (with_one (unary_dims widest o)) same.dims;
        values = λ index inside.
            ap (λ d. unary_value o d (value s ss) index) shape
            ∙ agree-unary o (shape_of t ts) (shape_of (unary o t) ts) (value s ss) (value t ts)
            dims same.values index inside;
      }

  pub same-binary : (o : Binary) (s t u v : Term) → IsOk (dims_of widest (binary o t v) ts)
      → IsSameTensor s ss t ts → IsSameTensor u ss v ts
      → IsSameTensor (binary o s u) ss (binary o t v) ts
  same-binary o s t u v has first second =
      let known = with_two-known (binary_dims widest o) (dims_of widest t ts) (dims_of widest v ts) has in
      let left : shape_of s ss ≡ shape_of t ts = ap (λ r. result_unwrap_or r []) first.dims in
      let right : shape_of u ss ≡ shape_of v ts = ap (λ r. result_unwrap_or r []) second.dims in
      let dims : binary_dims widest o (shape_of t ts) (shape_of v ts) ≡ Ok (shape_of (binary o t v) ts) =
      sym known.2 ∙ Ok-unwrap (dims_of widest (binary o t v) ts) has in
      record {
        dims = ap (λ r. with_two (binary_dims widest o) r (dims_of widest u ss)) first.dims
            ∙ ap (with_two (binary_dims widest o) (dims_of widest t ts)) second.dims;
        values = λ index inside.
            ap (λ d. binary_value o d (shape_of u ss) (value s ss) (value u ss) index) left
            ∙ ap (λ e. binary_value o (shape_of t ts) e (value s ss) (value u ss) index) right
            ∙ agree-binary o (shape_of t ts) (shape_of v ts) (shape_of (binary o t v) ts)
            (value s ss) (value t ts)
            (value u ss) (value v ts) dims first.values second.values index inside;
      }

  pub same-ternary : (o : Ternary) (s t u v w x : Term) → IsOk (dims_of widest (ternary o t v x) ts)
      → IsSameTensor s ss t ts
      → IsSameTensor u ss v ts → IsSameTensor w ss x ts
      → IsSameTensor (ternary o s u w) ss (ternary o t v x) ts
  same-ternary o s t u v w x has first second third =
      let known = with_three-known (ternary_dims o) (dims_of widest t ts) (dims_of widest v ts) (dims_of widest x ts)
      has in
      let dims : ternary_dims o (shape_of t ts) (shape_of v ts) (shape_of x ts)
      ≡ Ok (shape_of (ternary o t v x) ts) =
      sym known.3 ∙ Ok-unwrap (dims_of widest (ternary o t v x) ts) has in
      record {
        dims = ap (λ r. with_three (ternary_dims o) r (dims_of widest u ss) (dims_of widest w ss)) first.dims
            ∙ ap (λ r. with_three (ternary_dims o) (dims_of widest t ts) r (dims_of widest w ss)) second.dims
            ∙ ap (with_three (ternary_dims o) (dims_of widest t ts) (dims_of widest v ts)) third.dims;
        values = λ index inside.
            agree-ternary o (shape_of t ts) (shape_of v ts) (shape_of x ts)
            (shape_of (ternary o t v x) ts)
            (value s ss) (value t ts) (value u ss) (value v ts) (value w ss) (value x ts) dims
            first.values second.values third.values index inside;
      }

-- which is then one tensor
pub tensor_of-same : (s t : Term) (ss ts : List Contents) → IsSameTensor s ss t ts
    → tensor_of s ss ≡ tensor_of t ts
tensor_of-same s t ss ts same =
    let shape : shape_of s ss ≡ shape_of t ts = ap (λ r. result_unwrap_or r []) same.dims in
    let size : size_of (shape_of s ss) ≡ size_of (shape_of t ts) = ap size_of shape in
    tensor_of-made ts t (tensor_of s ss) (size_of (shape_of s ss)) shape
    (map-values_from ts t (value_of_place s ss) 0 (size_of (shape_of s ss))
    (λ p below.
    ap (λ d. value s ss (index_of d p)) shape
    ∙ same.values (index_of (shape_of t ts) p) (IsIndexOf-index_of (shape_of t ts) p below))
    (omega (arith, size))) size
