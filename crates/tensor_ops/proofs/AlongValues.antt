-- Operations along one axis, and takes, of values that are given by their places.
use Rattle.std.proofs.Common.{◌≡◌, ℕ, ℤ, ◌<◌, List, [], length, get_or, Ok, refl, ap, sym, subst, ◌∙◌, arith, inl, inr, ◌≤◌, nat_le, nat_lt}
use Rattle.std.proofs.lemmas.Bool.{and_parts, cases_Bool, leb-true}
use Rattle.std.specs.Result.{result_unwrap_or}
use Rattle.tensor_ops.specs.private.Lowering.{HasValues}
use Rattle.tensor_scans.specs.Lines.{taken_from, width_of}
use Rattle.tensor_scans.specs.Places.{along_at, line_through, line_values, number_at, taken_at}
use Rattle.tensor_scans.specs.declared.lines.Lines.{Lines}
use Rattle.tensor_scans.specs.declared.operation.LineOperation.{LineOperation}
use Rattle.tensor_shape.specs.Index.{size_of}
use Rattle.tensor_shape.proofs.Sizes.{size_of-le-bulk_of}
use Rattle.tensor_shape.specs.Legal.{are_legal, bulk_of, highest_rank, most_elements, widest}
use Rattle.tensor_terms.specs.Along.{along_dims, along_value, replaced_dims, taken, taken_dims}
use Rattle.tensor_terms.specs.AxisLines.{AreLinesAlong}
use Rattle.tensor_terms.proofs.AlongTerms.{along-given, along-known, own_dims, taken-given, taken-known, values-along}
use Rattle.tensor_terms.proofs.AxisLines.{numbers-below, values-replaced, values-whole}
use Rattle.tensor_values.specs.Values.{value_in}

module _ (axis : ℕ) (ds rs : List ℕ) (lines : Lines) (n : ℕ) (of : ℕ → ℤ) (f : List ℕ → ℤ)
    (are : AreLinesAlong axis ds lines) (values : HasValues n of ds f) where
  -- an operation along them
  module _ (o : LineOperation) (dims : along_dims o axis ds ≡ Ok rs) where
    along-result : replaced_dims axis (own_dims o (get_or ds axis 0)) ds ≡ rs
    along-result = ap (λ r. result_unwrap_or r []) (sym (along-known o axis ds (rw dims refl)).dims ∙ dims)

    along-inside : axis < length ds
    along-inside = (along-known o axis ds (rw dims refl)).inside

    pub along-count : n ≡ line_values lines lines.length
    along-count = values.whole ∙ values-whole axis ds lines along-inside are

    pub values-of-along : (count : ℕ) (at : ℕ → ℤ) → count ≡ line_values lines (width_of o lines.length)
        → ((p : ℕ) → p < line_values lines (width_of o lines.length) → at p ≡ along_at o lines of p)
        → HasValues count at rs (along_value o axis ds f)
    values-of-along count at whole each =
        let size : size_of (replaced_dims axis (own_dims o (get_or ds axis 0)) ds) ≡ line_values lines (width_of o lines.length) =
        values-along axis ds lines along-inside are o in
        subst (λ es. HasValues count at es (along_value o axis ds f)) along-result
        (record {
          whole = whole ∙ sym size;
          each = λ p below. each p (omega (arith, below, size)) ∙ along-given axis ds lines along-inside are of f values.each o p below;
        })

  -- a take
  module _ (es : List ℕ) (m : ℕ) (numbers : List ℤ) (h : List ℕ → ℤ) (second : HasValues m (value_in numbers) es h)
      (dims : taken_dims widest axis ds es ≡ Ok rs) where
    taken-result : replaced_dims axis es ds ≡ rs
    taken-result = ap (λ r. result_unwrap_or r []) (sym (taken-known axis ds es (rw dims refl)).dims ∙ dims)

    taken-inside : axis < length ds
    taken-inside = (taken-known axis ds es (rw dims refl)).inside

    pub taken-count : n ≡ line_values lines lines.length
    taken-count = values.whole ∙ values-whole axis ds lines taken-inside are

    pub taken-size : size_of rs ≡ line_values lines (size_of es)
    taken-size = ap size_of (sym taken-result) ∙ values-replaced axis ds es lines taken-inside are

    -- the result has no more values than may be
    pub taken-few : size_of rs ≤ most_elements
    taken-few =
        let all : List ℕ = replaced_dims axis es ds in
        elim (cases_Bool (nat_lt axis (length ds))) [
          | inl within ↦ elim (cases_Bool (are_legal widest all)) [
            | inl legal ↦
                let parts = and_parts (nat_le (length all) highest_rank) (nat_le (bulk_of all) most_elements) legal in
                omega (arith, ap size_of taken-result, size_of-le-bulk_of all, leb-true (bulk_of all) most_elements parts.1)
            | inr large ↦ let none = rw (within, large) at dims in (cc)
          ]
          | inr past ↦ let none = rw past at dims in (cc)
        ]

    pub values-of-taken : (count : ℕ) (at : ℕ → ℤ) → length numbers ≡ m → count ≡ line_values lines (length numbers)
        → ((p : ℕ) → p < line_values lines (length numbers) → at p ≡ taken_at lines numbers of p)
        → HasValues count at rs (taken axis ds es f h)
    values-of-taken count at long whole each =
        let width : length numbers ≡ size_of es = long ∙ second.whole in
        let size : size_of (replaced_dims axis es ds) ≡ line_values lines (length numbers) =
        values-replaced axis ds es lines taken-inside are ∙ ap (line_values lines) (sym width) in
        subst (λ cs. HasValues count at cs (taken axis ds es f h)) taken-result
        (record {
          whole = whole ∙ sym size;
          each = λ p below.
              let low : p < line_values lines (length numbers) = omega (arith, below, size) in
              each p low
              ∙ ap (λ w. taken_from (line_through lines w of p) (value_in numbers (number_at lines w p))) width
              ∙ ap (taken_from (line_through lines (size_of es) of p))
              (second.each (number_at lines (size_of es) p) (numbers-below axis ds es lines taken-inside are p below))
              ∙ taken-given axis ds lines taken-inside are of f values.each es h p below;
        })
