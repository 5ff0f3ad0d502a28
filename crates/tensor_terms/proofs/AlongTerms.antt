-- Operations along one axis and takes: their dims, and their values at places.
use Rattle.std.proofs.Common.{◌≡◌, ℕ, ◌+◌, ◌<◌, ◌≤◌, ℤ, pos, List, [], ◌∷◌, ◌++◌, length, map, take, drop, get_or}
use Rattle.std.proofs.Common.{true, if◌then◌else◌, nat_lt, Ok, IsOk, refl, ap, sym, subst, ◌∙◌, inl, inr, arith}
use Rattle.std.proofs.lemmas.Bool.{cases_Bool, ltb-true}
use Rattle.std.proofs.lemmas.List.FromFn.{get_or-map-range_with_len, length-map-range_with_len, map-range_with_len_more, take-map-range_with_len}
use Rattle.std.specs.List.{range_with_len}
use Rattle.std.specs.Result.{result_unwrap_or}
use Rattle.tensor_scans.specs.Lines.{along_line, is_cumulative, outcome, taken_from, width_of}
use Rattle.tensor_scans.specs.Places.{along_at, line_place, line_through, line_values, number_at}
use Rattle.tensor_scans.specs.Progress.{IsProgress}
use Rattle.tensor_scans.specs.declared.lines.Lines.{Lines}
use Rattle.tensor_scans.specs.declared.operation.LineOperation.{LineOperation}
use Rattle.tensor_scans.specs.declared.progress.Progress.{Progress}
use Rattle.tensor_shape.specs.Index.{size_of, IsIndexOf, place, index_of}
use Rattle.tensor_shape.specs.Legal.{widest}
use Rattle.tensor_shape.proofs.Places.{IsIndexOf-index_of, index_of-place, place-below-size_of}
use Rattle.tensor_terms.specs.Along.{along_dims, along_value, line, replaced_dims, taken, taken_dims, with_number}
use Rattle.tensor_terms.specs.AxisLines.{AreLinesAlong}
use Rattle.tensor_terms.specs.Contents.{Contents}
use Rattle.tensor_terms.specs.Result.{dims_of, shape_of}
use Rattle.tensor_terms.specs.Term.{Term, unary, binary, along, taking}
use Rattle.tensor_terms.specs.Value.{value, value_of_place}
use Rattle.tensor_terms.proofs.AxisLines.{values-replaced, number-index, number-below, line-through, numbers-index, numbers-below, replaced-same, number-of, replaced-removed}
use Rattle.tensor_terms.proofs.SameValues.{Agree}
use Rattle.tensor_values.proofs.Runs.{map-shifted}
use Rattle.tensor_terms.proofs.Shapes.{with_one-known, with_two-known}

-- the dims that an operation puts in the place of its axis' dimension
abbrev pub own_dims : LineOperation → ℕ → List ℕ
own_dims o d = if is_cumulative o then d ∷ [] else []

own_dims-count : (o : LineOperation) (d : ℕ) → length (own_dims o d) ≡ (if is_cumulative o then 1 else 0)
own_dims-count o d = elim (cases_Bool (is_cumulative o)) [
  | inl all ↦ rw all refl
  | inr one ↦ rw one refl
]

-- what a line gives at a number that matters only to a cumulative operation
along_line-number : (o : LineOperation) (l : List ℤ) (i j : ℕ) → (is_cumulative o ≡ true → i ≡ j) → along_line o l i ≡ along_line o l j
along_line-number o l i j same = elim (cases_Bool (is_cumulative o)) [
  | inl all ↦ ap (along_line o l) (same all)
  | inr one ↦ rw one refl
]

-- the lines along an axis
abbrev lines_of : ℕ → List ℕ → Lines
lines_of axis ds = record {
  stride = size_of (take axis ds);
  length = get_or ds axis 0;
  blocks = size_of (drop (axis + 1) ds);
}

lines_of-along : (axis : ℕ) (ds : List ℕ) → AreLinesAlong axis ds (lines_of axis ds)
lines_of-along axis ds = record { stride = refl; length = refl; blocks = refl }

-- as many values of those as a line of the result has
pub own_dims-width : (o : LineOperation) (d : ℕ) → size_of (own_dims o d) ≡ width_of o d
own_dims-width o d = elim (cases_Bool (is_cumulative o)) [
  | inl all ↦ rw all (omega arith)
  | inr one ↦ rw one refl
]

-- the operation's result dims
pub record IsAlong (o : LineOperation) (axis : ℕ) (ds : List ℕ) : Type 0 where
  pub inside : axis < length ds
  pub dims : along_dims o axis ds ≡ Ok (replaced_dims axis (own_dims o (get_or ds axis 0)) ds)

pub along-known : (o : LineOperation) (axis : ℕ) (ds : List ℕ) → IsOk (along_dims o axis ds) → IsAlong o axis ds
along-known o axis ds h = elim (cases_Bool (nat_lt axis (length ds))) [
  | inl within ↦
      let inside : axis < length ds = ltb-true axis (length ds) within in
      record {
        inside = inside;
        dims = elim (cases_Bool (is_cumulative o)) [
          | inl all ↦ rw (within, all) (ap Ok (sym (replaced-same axis ds inside)))
          | inr one ↦ rw (within, one) (ap Ok (sym (replaced-removed axis ds)))
        ];
      }
  | inr past ↦ let bad = rw past at h in (cc)
]

-- the take's
pub record IsTaken (axis : ℕ) (ds es : List ℕ) : Type 0 where
  pub inside : axis < length ds
  pub dims : taken_dims widest axis ds es ≡ Ok (replaced_dims axis es ds)

pub taken-known : (axis : ℕ) (ds es : List ℕ) → IsOk (taken_dims widest axis ds es) → IsTaken axis ds es
taken-known axis ds es h = elim (cases_Bool (nat_lt axis (length ds))) [
  | inl within ↦ record {
    inside = ltb-true axis (length ds) within;
    dims = grind arith;
  }
  | inr past ↦ let bad = rw past at h in (cc)
]

-- lines of operands that agree
line-other : (axis : ℕ) (ds es : List ℕ) (f g : List ℕ → ℤ) (is : List ℕ) → axis < length ds → Agree ds f g
    → IsIndexOf (replaced_dims axis es ds) is → line axis (length es) ds f is ≡ line axis (length es) ds g is
line-other axis ds es f g is inside same index =
    let rs : List ℕ = replaced_dims axis es ds in
    let p : ℕ = place rs is in
    let below : p < size_of rs = place-below-size_of rs is index in
    let at : index_of rs p ≡ is = index_of-place rs is index in
    map-shifted (λ k. f (with_number axis (length es) is k)) (λ k. g (with_number axis (length es) is k)) 0 0 (get_or ds axis 0)
    (λ k few. same (with_number axis (length es) is (0 + k))
    (subst (λ js. IsIndexOf ds (with_number axis (length es) js (0 + k))) at
    (number-index axis ds es (lines_of axis ds) inside (lines_of-along axis ds) p below (0 + k) (omega arith))))

-- an operation along an axis of operands that agree
pub along-other : (o : LineOperation) (axis : ℕ) (ds : List ℕ) (f g : List ℕ → ℤ) → axis < length ds → Agree ds f g
    → Agree (replaced_dims axis (own_dims o (get_or ds axis 0)) ds) (along_value o axis ds f) (along_value o axis ds g)
along-other o axis ds f g inside same is index =
    let es : List ℕ = own_dims o (get_or ds axis 0) in
    let lines : line axis (length es) ds f is ≡ line axis (length es) ds g is = line-other axis ds es f g is inside same index in
    ap (λ n. along_line o (line axis n ds f is) (get_or is axis 0)) (sym (own_dims-count o (get_or ds axis 0)))
    ∙ ap (λ l. along_line o l (get_or is axis 0)) lines
    ∙ ap (λ n. along_line o (line axis n ds g is) (get_or is axis 0)) (own_dims-count o (get_or ds axis 0))

-- takes of operands that agree
pub taken-other : (axis : ℕ) (ds es : List ℕ) (f g h k : List ℕ → ℤ) → axis < length ds → Agree ds f g → Agree es h k
    → Agree (replaced_dims axis es ds) (taken axis ds es f h) (taken axis ds es g k)
taken-other axis ds es f g h k inside first second is index =
    let rs : List ℕ = replaced_dims axis es ds in
    let p : ℕ = place rs is in
    let below : p < size_of rs = place-below-size_of rs is index in
    let at : index_of rs p ≡ is = index_of-place rs is index in
    let numbers : index_of es (number_at (lines_of axis ds) (size_of es) p) ≡ take (length es) (drop axis is) =
    numbers-index axis ds es (lines_of axis ds) inside (lines_of-along axis ds) p below
    ∙ ap (λ js. take (length es) (drop axis js)) at in
    let low = numbers-below axis ds es (lines_of axis ds) inside (lines_of-along axis ds) p below in
    let same : h (take (length es) (drop axis is)) ≡ k (take (length es) (drop axis is)) =
    second (take (length es) (drop axis is)) (subst (λ js. IsIndexOf es js) numbers (IsIndexOf-index_of es _ low)) in
    ap (λ l. taken_from l (h (take (length es) (drop axis is)))) (line-other axis ds es f g is inside first index)
    ∙ ap (taken_from (line axis (length es) ds g is)) same

-- by places, along lines
module _ (axis : ℕ) (ds : List ℕ) (lines : Lines) (inside : axis < length ds) (are : AreLinesAlong axis ds lines) where
  pub values-along : (o : LineOperation)
      → size_of (replaced_dims axis (own_dims o (get_or ds axis 0)) ds) ≡ line_values lines (width_of o lines.length)
  values-along o =
      values-replaced axis ds (own_dims o (get_or ds axis 0)) lines inside are
      ∙ ap (line_values lines) (own_dims-width o (get_or ds axis 0) ∙ ap (width_of o) (sym are.length))

  -- the value of an operation at a place of its result
  pub along-places : (o : LineOperation) (f : List ℕ → ℤ) (p : ℕ)
      → p < size_of (replaced_dims axis (own_dims o (get_or ds axis 0)) ds)
      → along_value o axis ds f (index_of (replaced_dims axis (own_dims o (get_or ds axis 0)) ds) p)
      ≡ along_at o lines (λ q. f (index_of ds q)) p
  along-places o f p below =
      let d : ℕ = get_or ds axis 0 in
      let es : List ℕ = own_dims o d in
      let is : List ℕ = index_of (replaced_dims axis es ds) p in
      let width : size_of es ≡ width_of o lines.length = own_dims-width o d ∙ ap (width_of o) (sym are.length) in
      ap (λ n. along_line o (line axis n ds f is) (get_or is axis 0)) (sym (own_dims-count o d))
      ∙ ap (λ l. along_line o l (get_or is axis 0)) (line-through axis ds es lines inside are p below f)
      ∙ ap (λ w. along_line o (line_through lines w (λ q. f (index_of ds q)) p) (get_or is axis 0)) width
      ∙ along_line-number o (line_through lines (width_of o lines.length) (λ q. f (index_of ds q)) p)
      (get_or is axis 0) (number_at lines (width_of o lines.length) p)
      (λ all.
      let whole : replaced_dims axis es ds ≡ ds = ap (λ c. replaced_dims axis (if c then d ∷ [] else []) ds) all ∙ replaced-same axis ds inside in
      ap (λ l. get_or (index_of l p) axis 0) whole
      ∙ number-of axis ds lines inside are p
      ∙ ap (λ c. number_at lines (if c then lines.length else 1) p) (sym all))

  -- the value of a take
  pub taken-places : (es : List ℕ) (f h : List ℕ → ℤ) (p : ℕ) → p < size_of (replaced_dims axis es ds)
      → taken axis ds es f h (index_of (replaced_dims axis es ds) p)
      ≡ taken_from (line_through lines (size_of es) (λ q. f (index_of ds q)) p) (h (index_of es (number_at lines (size_of es) p)))
  taken-places es f h p below =
      ap (λ l. taken_from l (h (take (length es) (drop axis (index_of (replaced_dims axis es ds) p)))))
      (line-through axis ds es lines inside are p below f)
      ∙ ap (λ js. taken_from (line_through lines (size_of es) (λ q. f (index_of ds q)) p) (h js))
      (sym (numbers-index axis ds es lines inside are p below))

-- the lines of values that are given by their places
module _ (axis : ℕ) (ds : List ℕ) (lines : Lines) (inside : axis < length ds) (are : AreLinesAlong axis ds lines)
    (at : ℕ → ℤ) (f : List ℕ → ℤ) (same : (q : ℕ) → q < size_of ds → at q ≡ f (index_of ds q)) where
  line-at : (es : List ℕ) (p : ℕ) → p < size_of (replaced_dims axis es ds)
      → line_through lines (size_of es) at p ≡ line_through lines (size_of es) (λ q. f (index_of ds q)) p
  line-at es p below =
      let read : ℕ → ℕ = line_place lines (size_of es) p in
      map-shifted (λ k. at (read k)) (λ k. f (index_of ds (read k))) 0 0 lines.length
      (λ k few. same (read (0 + k)) (number-below axis ds es lines inside are p below (0 + k) (omega arith)))

  pub along-given : (o : LineOperation) (p : ℕ) → p < size_of (replaced_dims axis (own_dims o (get_or ds axis 0)) ds)
      → along_at o lines at p ≡ along_value o axis ds f (index_of (replaced_dims axis (own_dims o (get_or ds axis 0)) ds) p)
  along-given o p below =
      let es : List ℕ = own_dims o (get_or ds axis 0) in
      let width : size_of es ≡ width_of o lines.length = own_dims-width o (get_or ds axis 0) ∙ ap (width_of o) (sym are.length) in
      let number : ℕ = number_at lines (width_of o lines.length) p in
      ap (λ w. along_line o (line_through lines w at p) number) (sym width)
      ∙ ap (λ l. along_line o l number) (line-at es p below)
      ∙ ap (λ w. along_line o (line_through lines w (λ q. f (index_of ds q)) p) number) width
      ∙ sym (along-places axis ds lines inside are o f p below)

  pub taken-given : (es : List ℕ) (h : List ℕ → ℤ) (p : ℕ) → p < size_of (replaced_dims axis es ds)
      → taken_from (line_through lines (size_of es) at p) (h (index_of es (number_at lines (size_of es) p)))
      ≡ taken axis ds es f h (index_of (replaced_dims axis es ds) p)
  taken-given es h p below =
      ap (λ l. taken_from l (h (index_of es (number_at lines (size_of es) p)))) (line-at es p below)
      ∙ sym (taken-places axis ds lines inside are es f h p below)

-- the values of terms
module _ (inputs : List Contents) where
  module _ (o : LineOperation) (axis : ℕ) (a : Term) (has : IsOk (dims_of widest (unary (along o axis) a) inputs)) where
    pub along-is : IsAlong o axis (shape_of a inputs)
    along-is =
        let known = with_one-known (along_dims o axis) (dims_of widest a inputs) has in
        along-known o axis (shape_of a inputs) (subst (λ s. IsOk s) known.1 has)

    pub along-shape : shape_of (unary (along o axis) a) inputs
        ≡ replaced_dims axis (own_dims o (get_or (shape_of a inputs) axis 0)) (shape_of a inputs)
    along-shape =
        let known = with_one-known (along_dims o axis) (dims_of widest a inputs) has in
        ap (λ s. result_unwrap_or s []) (known.1 ∙ along-is.dims)

    module _ (lines : Lines) (are : AreLinesAlong axis (shape_of a inputs) lines) where
      pub along-values : size_of (shape_of (unary (along o axis) a) inputs) ≡ line_values lines (width_of o lines.length)
      along-values = ap size_of along-shape ∙ values-along axis (shape_of a inputs) lines along-is.inside are o

      pub value_of_place-along : (p : ℕ) → p < size_of (shape_of (unary (along o axis) a) inputs)
          → value_of_place (unary (along o axis) a) inputs p ≡ along_at o lines (value_of_place a inputs) p
      value_of_place-along p below =
          ap (λ s. along_value o axis (shape_of a inputs) (value a inputs) (index_of s p)) along-shape
          ∙ along-places axis (shape_of a inputs) lines along-is.inside are o (value a inputs) p
          (omega (arith, ap size_of along-shape))

  module _ (axis : ℕ) (a b : Term) (has : IsOk (dims_of widest (binary (taking axis) a b) inputs)) where
    pub taken-is : IsTaken axis (shape_of a inputs) (shape_of b inputs)
    taken-is =
        let known = with_two-known (taken_dims widest axis) (dims_of widest a inputs) (dims_of widest b inputs) has in
        taken-known axis (shape_of a inputs) (shape_of b inputs) (subst (λ s. IsOk s) known.2 has)

    pub taken-shape : shape_of (binary (taking axis) a b) inputs ≡ replaced_dims axis (shape_of b inputs) (shape_of a inputs)
    taken-shape =
        let known = with_two-known (taken_dims widest axis) (dims_of widest a inputs) (dims_of widest b inputs) has in
        ap (λ s. result_unwrap_or s []) (known.2 ∙ taken-is.dims)

    module _ (lines : Lines) (are : AreLinesAlong axis (shape_of a inputs) lines) where
      pub taken-values : size_of (shape_of (binary (taking axis) a b) inputs) ≡ line_values lines (size_of (shape_of b inputs))
      taken-values = ap size_of taken-shape ∙ values-replaced axis (shape_of a inputs) (shape_of b inputs) lines taken-is.inside are

      pub value_of_place-taken : (p : ℕ) → p < size_of (shape_of (binary (taking axis) a b) inputs)
          → value_of_place (binary (taking axis) a b) inputs p
          ≡ taken_from (line_through lines (size_of (shape_of b inputs)) (value_of_place a inputs) p)
          (value_of_place b inputs (number_at lines (size_of (shape_of b inputs)) p))
      value_of_place-taken p below =
          ap (λ s. taken axis (shape_of a inputs) (shape_of b inputs) (value a inputs) (value b inputs) (index_of s p)) taken-shape
          ∙ taken-places axis (shape_of a inputs) lines taken-is.inside are (shape_of b inputs) (value a inputs) (value b inputs) p
          (omega (arith, ap size_of taken-shape))

      -- where the number is one of the line's, and where it isn't
      module _ (p : ℕ) (below : p < size_of (shape_of (binary (taking axis) a b) inputs)) (w : ℕ)
          (width : w ≡ size_of (shape_of b inputs)) (j : ℤ) (is : j ≡ value_of_place b inputs (number_at lines w p)) where
        taken-number : value_of_place (binary (taking axis) a b) inputs p
            ≡ taken_from (line_through lines w (value_of_place a inputs) p) j
        taken-number =
            value_of_place-taken p below
            ∙ ap (λ n. taken_from (line_through lines n (value_of_place a inputs) p) (value_of_place b inputs (number_at lines n p)))
            (sym width)
            ∙ ap (taken_from (line_through lines w (value_of_place a inputs) p)) (sym is)

        pub taken-found : (k : ℕ) (v : ℤ) → k < lines.length
            → ((l : List ℤ) → taken_from l j ≡ get_or l k (pos 0))
            → v ≡ value_of_place a inputs (line_place lines w p k)
            → v ≡ value_of_place (binary (taking axis) a b) inputs p
        taken-found k v inside found at =
            at
            ∙ sym (get_or-map-range_with_len (λ i. value_of_place a inputs (line_place lines w p i)) 0 lines.length k k (pos 0)
            inside (omega arith))
            ∙ sym (found (line_through lines w (value_of_place a inputs) p))
            ∙ sym taken-number

        pub taken-missed : ((l : List ℤ) → length l ≤ lines.length → taken_from l j ≡ pos 0)
            → pos 0 ≡ value_of_place (binary (taking axis) a b) inputs p
        taken-missed missed =
            sym (missed (line_through lines w (value_of_place a inputs) p)
            (omega (arith, length-map-range_with_len (λ i. value_of_place a inputs (line_place lines w p i)) 0 lines.length)))
            ∙ sym taken-number

-- where a loop over the first values of a line stands
abbrev pub first_numbers : Lines → ℕ → (ℕ → ℤ) → ℕ → ℕ → List ℤ
first_numbers lines width f p count = map (λ k. f (line_place lines width p k)) (range_with_len 0 count)

abbrev pub KnowsLine : LineOperation → Lines → ℕ → (ℕ → ℤ) → ℕ → ℕ → Progress → Type 0
KnowsLine o lines width f p count progress = IsProgress o (first_numbers lines width f p count) progress

-- one more of them
pub first_numbers-next : (lines : Lines) (width : ℕ) (f : ℕ → ℤ) (p k : ℕ)
    → first_numbers lines width f p (k + 1) ≡ first_numbers lines width f p k ++ f (line_place lines width p k) ∷ []
first_numbers-next lines width f p k = map-range_with_len_more (λ j. f (line_place lines width p j)) 0 k k (omega arith)

pub length-first_numbers : (lines : Lines) (width : ℕ) (f : ℕ → ℤ) (p k : ℕ) → length (first_numbers lines width f p k) ≡ k
length-first_numbers lines width f p k = length-map-range_with_len (λ j. f (line_place lines width p j)) 0 k

-- the result of an operation at a place, from the first numbers of its line
pub along_at-numbers : (o : LineOperation) (lines : Lines) (f : ℕ → ℤ) (p count : ℕ)
    → count ≡ (if is_cumulative o then number_at lines lines.length p + 1 else lines.length) → count ≤ lines.length
    → along_at o lines f p ≡ outcome o (first_numbers lines (width_of o lines.length) f p count)
along_at-numbers o lines f p count is few =
    let w : ℕ = width_of o lines.length in
    let g : ℕ → ℤ = λ k. f (line_place lines w p k) in
    let whole : List ℤ = line_through lines w f p in
    let i : ℕ = number_at lines w p in
    ap (outcome o) (elim (cases_Bool (is_cumulative o)) [
      | inl all ↦
          let here : count ≡ number_at lines lines.length p + 1 =
          is ∙ ap (λ c. if c then number_at lines lines.length p + 1 else lines.length) all in
          let number : i + 1 ≡ number_at lines lines.length p + 1 =
          ap (λ c. number_at lines (if c then lines.length else 1) p + 1) all in
          ap (λ c. if c then take (i + 1) whole else whole) all
          ∙ take-map-range_with_len g 0 lines.length (i + 1) (omega (arith, here, number, few))
          ∙ ap (λ n. map g (range_with_len 0 n)) (number ∙ sym here)
      | inr one ↦
          let here : count ≡ lines.length =
          is ∙ ap (λ c. if c then number_at lines lines.length p + 1 else lines.length) one in
          ap (λ c. if c then take (i + 1) whole else whole) one
          ∙ ap (λ n. map g (range_with_len 0 n)) (sym here)
    ])
