-- Result dims within bounds: they are those where dims go as far as they may.
use Rattle.std.proofs.Common.{◌≡◌, ℕ, ◌*◌, ◌≤◌, List, length, remove, Bool, true, false, ◌&&◌, nat_eq, nat_lt, nat_le, Ok, Err, IsOk, IfOk, []}
use Rattle.std.proofs.Common.{if◌then◌else◌, refl, ap, sym, ◌∙◌, arith, inl, inr}
use Rattle.std.specs.Cmp.Lexicographic.{pointwise}
use Rattle.std.specs.Result.{result_unwrap_or}
use Rattle.std.proofs.lemmas.Bool.{cases_Bool, and_parts, and_from, leb-true, le-leb}
use Rattle.tensor_shape.specs.Index.{size_of}
use Rattle.tensor_shape.specs.Legal.{highest_rank, widest, most_elements, text_elements, bulk_of, are_legal, IsPossible}
use Rattle.tensor_shape.specs.declared.bounds.Bounds.{Bounds}
use Rattle.tensor_terms.specs.Along.{replaced_dims}
use Rattle.tensor_terms.specs.Contents.{Contents}
use Rattle.tensor_terms.specs.Concatenation.{joined_dims}
use Rattle.tensor_terms.specs.Contraction.{firsts, seconds, outer_dims, few_products, products_within, most_products}
use Rattle.tensor_terms.specs.Convolution.{fit_along, window_dims}
use Rattle.tensor_terms.specs.Movement.{none_is_zero, repeated_dims}
use Rattle.tensor_terms.specs.Padding.{padded_dims}
use Rattle.tensor_terms.specs.Reduction.{are_axes}
use Rattle.tensor_terms.specs.Result.{shape_of, dims_of, unary_dims, binary_dims, ternary_dims}
use Rattle.tensor_terms.specs.Shaped.{Shaped, legal_dims, with_one, with_two, with_three}
use Rattle.tensor_terms.specs.Merged.{dims_at}
use Rattle.tensor_terms.specs.Term.{Term, input, unary, binary, ternary, Unary, Binary}
use Rattle.tensor_terms.specs.Term.{each, constant, movement, pad, reduce, along}
use Rattle.tensor_terms.specs.Term.{pairwise, concat, contract, convolve, taking}
use Rattle.tensor_terms.specs.Term.{broadcast, slice, shuffle, reshape, chip, reverse, stride}
use Rattle.tensor_terms.specs.declared.fault.ExprFault.{ExprFault}
use Rattle.tensor_terms.specs.declared.fault.ExprFault.TheVariants.{ShapeMismatch, OutOfRange}
use Rattle.tensor_terms.proofs.Shapes.{with_three-known}

-- a result that is there is the same where dims go further
pub record Widens (narrow wide : Shaped) : Type 0 where
  pub same : IsOk narrow → wide ≡ narrow

pub Widens-same : (r : Shaped) → Widens r r
Widens-same r = record { same = λ h. refl }

-- so is one behind a check
pub Widens-check : (check : Bool) (narrow wide : Shaped) (fault : ExprFault) → Widens narrow wide
    → Widens (if check then narrow else Err fault) (if check then wide else Err fault)
Widens-check true narrow wide fault w = w
Widens-check false narrow wide fault w = record { same = λ h. refl }

-- and one on dims that are there
pub Widens-one : (narrow wide : List ℕ → Shaped) (first wider : Shaped) → ((d : List ℕ) → Widens (narrow d) (wide d))
    → Widens first wider → Widens (with_one narrow first) (with_one wide wider)
Widens-one narrow wide (Ok d) wider own w = record { same = λ h. ap (with_one wide) (w.same refl) ∙ (own d).same h }
Widens-one narrow wide (Err fault) wider own w = record { same = λ h. (cc) }

-- dims of as many places
abbrev equal_sizes : List ℕ → List ℕ → Shaped
equal_sizes d e = if nat_eq (size_of e) (size_of d) then Ok e else Err ShapeMismatch

module _ (bounds : Bounds) (within : IsPossible bounds) where
  are_legal-wider : (d : List ℕ) → are_legal bounds d ≡ true → are_legal widest d ≡ true
  are_legal-wider d h =
      let parts = and_parts (nat_le (length d) bounds.rank) (nat_le (bulk_of d) bounds.elements) h in
      and_from (nat_le (length d) highest_rank) (nat_le (bulk_of d) most_elements)
      (le-leb (length d) highest_rank (omega (arith, leb-true (length d) bounds.rank parts.0, within.rank)))
      (le-leb (bulk_of d) most_elements (omega (arith, leb-true (bulk_of d) bounds.elements parts.1, within.elements)))

  pub legal_dims-wider : (d : List ℕ) → Widens (legal_dims bounds d) (legal_dims widest d)
  legal_dims-wider d =
      elim (cases_Bool (are_legal bounds d)) [
        | inl legal ↦ record { same = λ h. rw (legal, are_legal-wider d legal) refl }
        | inr illegal ↦ record { same = λ h. let bad = rw illegal at h in (cc) }
      ]

  products-wider : products_within bounds ≤ most_products
  products-wider =
      elim (cases_Bool (nat_le bounds.elements text_elements)) [
        | inl few ↦ rw few (omega arith)
        | inr many ↦ rw many (omega arith)
      ]

  few_products-wider : (count : ℕ) (d : List ℕ) → Widens (few_products bounds count d) (few_products widest count d)
  few_products-wider count d =
      elim (cases_Bool (nat_le (size_of d * count) (products_within bounds))) [
        | inl few ↦
            let most : nat_le (size_of d * count) most_products ≡ true =
            le-leb (size_of d * count) most_products
            (omega (arith, leb-true (size_of d * count) (products_within bounds) few, products-wider)) in
            record { same = λ h. rw (few, most) refl }
        | inr many ↦ record { same = λ h. let bad = rw many at h in (cc) }
      ]

  unary_dims-wider : (o : Unary) (d : List ℕ) → Widens (unary_dims bounds o d) (unary_dims widest o d)
  unary_dims-wider (each o) d = Widens-same _
  unary_dims-wider (constant v) d = Widens-same _
  unary_dims-wider (movement (broadcast counts)) d =
      Widens-check (nat_eq (length counts) (length d)) _ _ ShapeMismatch
      (Widens-check (none_is_zero counts) _ _ OutOfRange (legal_dims-wider (repeated_dims d counts)))
  unary_dims-wider (movement (slice offsets extents)) d = Widens-same _
  unary_dims-wider (movement (shuffle order)) d = Widens-same _
  unary_dims-wider (movement (reshape sizes)) d =
      Widens-one (equal_sizes d) (equal_sizes d) _ _ (λ e. Widens-same _) (legal_dims-wider sizes)
  unary_dims-wider (movement (chip offset axis)) d = Widens-same _
  unary_dims-wider (movement (reverse flags)) d = Widens-same _
  unary_dims-wider (movement (stride steps)) d = Widens-same _
  unary_dims-wider (pad pairs) d =
      Widens-check (nat_eq (length pairs) (length d)) _ _ ShapeMismatch (legal_dims-wider (padded_dims pairs d))
  unary_dims-wider (reduce r axes) d = Widens-same _
  unary_dims-wider (along o axis) d = Widens-same _

  binary_dims-wider : (o : Binary) (d e : List ℕ) → Widens (binary_dims bounds o d e) (binary_dims widest o d e)
  binary_dims-wider (pairwise o) d e = Widens-same _
  binary_dims-wider (concat axis) d e =
      Widens-check (nat_eq (length d) (length e)) _ _ ShapeMismatch
      (Widens-check (nat_lt axis (length d)) _ _ OutOfRange
      (Widens-check (pointwise nat_eq (remove d axis) (remove e axis)) _ _ ShapeMismatch (legal_dims-wider (joined_dims axis d e))))
  binary_dims-wider (contract pairs) d e =
      Widens-check (are_axes (length d) (firsts pairs) && are_axes (length e) (seconds pairs)) _ _ OutOfRange
      (Widens-check (pointwise nat_eq (dims_at (firsts pairs) d) (dims_at (seconds pairs) e)) _ _ ShapeMismatch
      (Widens-one (few_products bounds (size_of (dims_at (firsts pairs) d))) (few_products widest (size_of (dims_at (firsts pairs) d)))
      _ _ (few_products-wider (size_of (dims_at (firsts pairs) d))) (legal_dims-wider (outer_dims pairs d e))))
  binary_dims-wider (convolve axes) d e =
      Widens-check (are_axes (length d) axes) _ _ OutOfRange
      (Widens-check (nat_eq (length e) (length axes)) _ _ ShapeMismatch
      (Widens-check (fit_along axes e d) _ _ OutOfRange (few_products-wider (size_of e) (window_dims axes e d))))
  binary_dims-wider (taking axis) d e =
      Widens-check (nat_lt axis (length d)) _ _ OutOfRange (legal_dims-wider (replaced_dims axis e d))

  two-wider : (o : Binary) (first second wider other : Shaped) → Widens first wider → Widens second other
      → Widens (with_two (binary_dims bounds o) first second) (with_two (binary_dims widest o) wider other)
  two-wider o (Ok d) second wider other w v =
      let inner = Widens-one (binary_dims bounds o d) (binary_dims widest o d) second other (binary_dims-wider o d) v in
      record { same = λ h. ap (λ r. with_two (binary_dims widest o) r other) (w.same refl) ∙ inner.same h }
  two-wider o (Err fault) second wider other w v = record { same = λ h. (cc) }

  -- what the expression's own bounds allow is allowed
  pub dims_of-wider : (t : Term) (inputs : List Contents) → Widens (dims_of bounds t inputs) (dims_of widest t inputs)
  dims_of-wider (input n) inputs = Widens-same _
  dims_of-wider (unary o a) inputs =
      Widens-one (unary_dims bounds o) (unary_dims widest o) _ _ (unary_dims-wider o) (dims_of-wider a inputs)
  dims_of-wider (binary o a b) inputs = two-wider o _ _ _ _ (dims_of-wider a inputs) (dims_of-wider b inputs)
  dims_of-wider (ternary o a b c) inputs =
      record {
        same = λ h.
            let known = with_three-known (ternary_dims o) (dims_of bounds a inputs) (dims_of bounds b inputs) (dims_of bounds c inputs) h in
            ap (λ r. with_three (ternary_dims o) r (dims_of widest b inputs) (dims_of widest c inputs))
            ((dims_of-wider a inputs).same known.0)
            ∙ ap (λ r. with_three (ternary_dims o) (dims_of bounds a inputs) r (dims_of widest c inputs))
            ((dims_of-wider b inputs).same known.1)
            ∙ ap (with_three (ternary_dims o) (dims_of bounds a inputs) (dims_of bounds b inputs)) ((dims_of-wider c inputs).same known.2);
      }

  -- so the dims that it allows are those of the values
  pub shape_of-within : (t : Term) (inputs : List Contents) (r : Shaped) → r ≡ dims_of bounds t inputs
      → IfOk r (λ d. shape_of t inputs ≡ d)
  shape_of-within t inputs (Ok d) h =
      ap (λ s. result_unwrap_or s []) ((dims_of-wider t inputs).same (rw (← h) refl) ∙ sym h)
  shape_of-within t inputs (Err fault) h = tt
