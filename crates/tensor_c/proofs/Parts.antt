-- Parts of an answer's values.
use Rattle.std.proofs.Common.{◌≡◌, ℕ, zero, suc, ℤ, pos, ◌+◌, ◌-◌, min, ◌≤◌, List, [], ◌∷◌, ◌++◌, length, take, drop}
use Rattle.std.proofs.Common.{get_or, refl, ap, sym, ◌∙◌, arith, ◌⊎◌, inl, inr, Result, Ok, Err}
use Rattle.std.proofs.Common.{append_assoc, length-append, length-take}
use Rattle.std.proofs.Math.Seq.{take-add, take-nil, drop-append-add}
use Rattle.std.proofs.lemmas.Bool.{cases_lt}
use Rattle.std.proofs.lemmas.List.{append-nil, length-drop, drop_all, drop-append-le, drop-drop}
use Rattle.std.proofs.lemmas.List.FromFn.{length-map-range_with_len, get_or-map-range_with_len}
use Rattle.expr_reader.specs.Contents.{Contents}
use Rattle.expr_reader.specs.Index.{size_of}
use Rattle.expr_reader.specs.Request.{Asked, tensors_of, asked_tensor}
use Rattle.expr_reader.specs.Result.{shape_of}
use Rattle.expr_reader.specs.Term.{Term}
use Rattle.expr_reader.specs.Value.{value_of_place, values_from}
use Rattle.tensor_values.proofs.Runs.{part-read, map-shifted}
use Rattle.expr_reader.specs.declared.fault.Fault.{Fault}
use Rattle.tensor_c.specs.Call.{begun}
use Rattle.tensor_c.specs.Part.{part_of, called_for_part}

-- n values of the whole tensor, from a place on, are the values at these places
pub part-from : (t : Term) (inputs : List Contents) (first n : ℕ)
    → first + n ≤ size_of (shape_of t inputs)
    → take n (drop first (values_from t inputs 0 (size_of (shape_of t inputs)))) ≡ values_from t inputs first n
part-from t inputs first n within =
    let f = value_of_place t inputs in
    let size = size_of (shape_of t inputs) in
    let vs = values_from t inputs 0 size in
    part-read vs first n (omega (arith, length-map-range_with_len f 0 size))
    ∙ map-shifted (λ p. get_or vs p (pos 0)) f first first n
    (λ k below. get_or-map-range_with_len f 0 size (first + k) (first + k) (pos 0) (omega (arith, below)) (omega arith))

-- how many values are asked for, of dims that the tensor has
pub length-asked : (a : Asked) (dims : List ℕ) → (asked_tensor a).dims ≡ dims → length (asked_tensor a).values ≡ size_of dims
length-asked a dims shape =
    length-map-range_with_len (value_of_place a.term (tensors_of a)) 0 (size_of (shape_of a.term (tensors_of a))) ∙ ap size_of shape

-- as many of the first ones as there are
pub take-length : (k : ℕ) (xs : List ℤ) → take k xs ≡ take (length (take k xs)) xs
take-length zero xs = refl
take-length (suc k) [] = refl
take-length (suc k) (x ∷ xs) = ap (λ l. x ∷ l) (take-length k xs)

-- how many values a part has, and that it is those
pub length-part : (t : Term) (inputs : List Contents) (first room : ℕ)
    → length (part_of (values_from t inputs 0 (size_of (shape_of t inputs))) first room)
    ≡ min (size_of (shape_of t inputs) - first) room
length-part t inputs first room =
    let size = size_of (shape_of t inputs) in
    let vs = values_from t inputs 0 size in
    omega (arith, length-take room (drop first vs), length-drop first vs, length-map-range_with_len (value_of_place t inputs) 0 size)

pub part-many : (t : Term) (inputs : List Contents) (first room count : ℕ) → count ≡ min (size_of (shape_of t inputs) - first) room
    → part_of (values_from t inputs 0 (size_of (shape_of t inputs))) first room ≡ values_from t inputs first count
part-many t inputs first room zero many =
    let part = part_of (values_from t inputs 0 (size_of (shape_of t inputs))) first room in
    nothing part (length-part t inputs first room ∙ sym many)
  where
    nothing : (xs : List ℤ) → length xs ≡ 0 → xs ≡ []
    nothing [] none = refl
    nothing (x ∷ xs) none = absurd (omega arith)
part-many t inputs first room (suc n) many =
    let rest = drop first (values_from t inputs 0 (size_of (shape_of t inputs))) in
    take-length room rest ∙ ap (λ m. take m rest) (length-part t inputs first room ∙ sym many)
    ∙ part-from t inputs first (suc n) (omega (arith, many))

-- a part, and the one behind it
pub part-joined : (values : List ℤ) (first n m : ℕ)
    → part_of values first n ++ part_of values (first + n) m ≡ part_of values first (n + m)
part-joined values first n m =
    ap (λ rest. part_of values first n ++ take m rest) (sym (drop-drop n first values))
    ∙ sym (take-add n m (drop first values))

-- what is written over the first ones of two lists, where the first list is full or the second stays
begun-joined : (p q a b : List ℤ) → length p ≤ length a → (length p ≡ length a) ⊎ (q ≡ [])
    → begun p a ++ begun q b ≡ begun (p ++ q) (a ++ b)
begun-joined p q a b within (inl full) =
    let behind : drop (length (p ++ q)) (a ++ b) ≡ drop (length q) b =
    ap (λ n. drop n (a ++ b)) (length-append p q ∙ ap (λ n. n + length q) full) ∙ drop-append-add a b (length q) in
    ap (λ rest. p ++ rest ++ begun q b) (drop_all (length p) a (omega (arith, full)))
    ∙ ap (λ l. l ++ begun q b) (append-nil p) ∙ sym (append_assoc p q (drop (length q) b))
    ∙ ap (λ rest. p ++ q ++ rest) (sym behind)
begun-joined p q a b within (inr none) =
    let front : begun (p ++ q) (a ++ b) ≡ begun p (a ++ b) =
    ap (λ l. begun l (a ++ b)) (ap (λ l. p ++ l) none ∙ append-nil p) in
    ap (λ l. begun p a ++ begun l b) none ∙ append_assoc p (drop (length p) a) b
    ∙ ap (λ l. p ++ l) (sym (drop-append-le (length p) a b within)) ∙ sym front

-- so are the parts of values, the second of which has any only where the first list is full
parts-written : (values : List ℤ) (first : ℕ) (out behind : List ℤ)
    → begun (part_of values first (length out)) out
    ++ begun (part_of values (first + length out) (length behind)) behind
    ≡ begun (part_of values first (length (out ++ behind))) (out ++ behind)
parts-written values first out behind =
    let n = length out in
    let m = length behind in
    let rest = drop first values in
    let within : length (take n rest) ≤ n = omega (arith, length-take n rest) in
    let full_or_end : (length (take n rest) ≡ n) ⊎ (part_of values (first + n) m ≡ []) =
    elim (cases_lt (length rest) n) [
      | inl few ↦ inr (ap (take m) (sym (drop-drop n first values) ∙ drop_all n rest (omega (arith, few))) ∙ take-nil m)
      | inr many ↦ inl (omega (arith, many, length-take n rest))
    ] in
    begun-joined (take n rest) (part_of values (first + n) m) out behind within full_or_end
    ∙ ap (λ l. begun l (out ++ behind))
    (part-joined values first n m ∙ ap (part_of values first) (sym (length-append out behind)))

-- and so are calls
pub calls-joined : (answer : Result Contents Fault) (first : ℕ) (out behind : List ℤ)
    → (called_for_part answer first out).out ++ (called_for_part answer (first + length out) behind).out
    ≡ (called_for_part answer first (out ++ behind)).out
calls-joined (Ok t) first out behind = parts-written t.values first out behind
calls-joined (Err fault) first out behind = refl
