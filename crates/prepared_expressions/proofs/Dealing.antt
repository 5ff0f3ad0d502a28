-- Arrays dealt to inputs, one after another.
use Rattle.std.proofs.Common.{◌≡◌, ◌<◌, ◌≤◌, ◌≢◌, ◌+◌, ◌^◌, ◌&&◌, ◌==◌, ℕ, zero, suc, ℤ, Bool, true, false, List, [], ◌∷◌, ◌++◌, length, take, drop, nat_le}
use Rattle.std.proofs.Common.{◌↔◌, is_ok, Result, Ok, Err, if◌then◌else◌, refl, ap, sym, ◌∙◌, subst, inl, inr, arith, append_assoc}
use Rattle.std.proofs.lemmas.Bool.{and_parts, and_from, le-leb, leb-true}
use Rattle.std.proofs.lemmas.List.{take-append-drop, length-append, length-take}
use Rattle.std.proofs.Math.Seq.{take-append_seam, drop-append_seam}
use Rattle.tensor_shape.specs.Index.{size_of}
use Rattle.tensor_shape.specs.Legal.{are_legal, bulk_of, IsWithin}
use Rattle.tensor_shape.specs.declared.bounds.Bounds.{Bounds}
use Rattle.tensor_shape.specs.declared.shape_fault.ShapeFault.{ShapeFault}
use Rattle.tensor_shape.specs.declared.shape_fault.ShapeFault.TheVariants.{RankTooHigh, TooManyElements}
use Rattle.tensor_terms.specs.Contents.{Contents, AreWithin, input_of}
use Rattle.prepared_expressions.specs.private.Dealing.{Dealing, One, one_from, after, next_from, all_from}
use Rattle.prepared_expressions.specs.Prepared.{recorded_dims, all_legal, dims_of_all, before, dealt, Begins, Prepared, IsPrepared, IsRecordable, form_of, record_of, terms_of}
use Rattle.tensor_terms.specs.Term.{Term}
use Rattle.prepared_expressions.specs.Recorded.{recorded_all}
use Rattle.expr_reader.specs.Arrays.{arrays_under}
use Rattle.expr_reader.specs.declared.array.Array.{Array}
use Rattle.prepared_expressions.specs.declared.refusal.Refusal.{Refusal}
use Rattle.prepared_expressions.specs.declared.refusal.Refusal.TheVariants.{NoRecord, OtherArrays}

pub after-nothing : (r : Result Dealing Refusal) → after [] r ≡ r
after-nothing (Ok d) = refl
after-nothing (Err f) = refl

pub after-after : (xs ys : List Contents) (r : Result Dealing Refusal) → after xs (after ys r) ≡ after (xs ++ ys) r
after-after xs ys (Ok d) = simp append_assoc
after-after xs ys (Err f) = refl

-- what was read of a tensor's dims is recorded, and is legal
pub record IsOne (bounds : Bounds) (vs : List ℤ) (ns : List ℕ) (one : One) : Type 0 where
  pub numbers : ns ≡ length one.tensor.dims ∷ one.tensor.dims ++ one.rest
  pub legal : are_legal bounds one.tensor.dims ≡ true

one_from-back : (bounds : Bounds) (vs : List ℤ) (ns : List ℕ) (one : One) → one_from bounds vs ns ≡ Ok one → IsOne bounds vs ns one
one_from-back bounds vs [] one is = absurd (cc)
one_from-back bounds vs (n ∷ ns) one is =
    by_test (nat_le n (length ns) && are_legal bounds (take n ns)) (length vs == size_of (take n ns)) refl is
  where
    by_test : (b c : Bool) → (nat_le n (length ns) && are_legal bounds (take n ns)) ≡ b
        → (if b then (if c
        then Ok (record { tensor = record { dims = take n ns; values = vs }; rest = drop n ns }) else Err OtherArrays) else Err NoRecord) ≡ Ok one
        → IsOne bounds vs (n ∷ ns) one
    by_test false c test is = absurd (cc)
    by_test true false test is = absurd (cc)
    by_test true true test is =
        let both = and_parts (nat_le n (length ns)) (are_legal bounds (take n ns)) test in
        let few : n ≤ length ns = leb-true n (length ns) both.0 in
        let long : length (take n ns) ≡ n = omega (arith, length-take n ns) in
        let made : One = record { tensor = record { dims = take n ns; values = vs }; rest = drop n ns } in
        let same : made ≡ one = cc in
        subst (IsOne bounds vs (n ∷ ns)) same
        (record { numbers = rw (long, take-append-drop n ns) refl; legal = both.1 })

-- what is dealt of the dims of all tensors
pub record IsAll (bounds : Bounds) (arrays : List (List ℤ)) (ns : List ℕ) (d : Dealing) : Type 0 where
  pub numbers : ns ≡ recorded_dims (dims_of_all d.tensors) d.rest
  pub many : length d.tensors ≡ length arrays
  pub legal : all_legal bounds (dims_of_all d.tensors) ≡ true

pub all_from-back : (bounds : Bounds) (arrays : List (List ℤ)) (ns : List ℕ) (d : Dealing) → all_from bounds arrays ns ≡ Ok d → IsAll bounds arrays ns d
all_from-back bounds [] ns d is =
    let made : Dealing = record { tensors = []; rest = ns } in
    let same : made ≡ d = cc in subst (IsAll bounds [] ns) same (record { numbers = refl; many = refl; legal = refl })
all_from-back bounds (vs ∷ arrays) ns d is = by_one (λ ms e found. all_from-back bounds arrays ms e found) (one_from bounds vs ns) refl is
  where
    by_rest : ((ms : List ℕ) (e : Dealing) → all_from bounds arrays ms ≡ Ok e → IsAll bounds arrays ms e)
        → (one : One) → IsOne bounds vs ns one → (r : Result Dealing Refusal) → all_from bounds arrays one.rest ≡ r
        → after (one.tensor ∷ []) r ≡ Ok d → IsAll bounds (vs ∷ arrays) ns d
    by_rest back one first (Err f) others is = absurd (cc)
    by_rest back one first (Ok e) others is =
        let more = back one.rest e others in
        let made : Dealing = record { tensors = one.tensor ∷ e.tensors; rest = e.rest } in
        let same : made ≡ d = cc in
        subst (IsAll bounds (vs ∷ arrays) ns) same
        (record {
          numbers = first.numbers ∙ ap (λ l. (length one.tensor.dims ∷ one.tensor.dims) ++ l) more.numbers;
          many = ap suc more.many;
          legal = and_from (are_legal bounds one.tensor.dims) (all_legal bounds (dims_of_all e.tensors)) first.legal more.legal;
        })

    by_one : ((ms : List ℕ) (e : Dealing) → all_from bounds arrays ms ≡ Ok e → IsAll bounds arrays ms e)
        → (r : Result One Refusal) → one_from bounds vs ns ≡ r → next_from (all_from bounds arrays) r ≡ Ok d → IsAll bounds (vs ∷ arrays) ns d
    by_one back (Err f) first is = absurd (cc)
    by_one back (Ok one) first is = by_rest back one (one_from-back bounds vs ns one first) (all_from bounds arrays one.rest) refl is

-- what is recorded is read again
one_from-recorded : (bounds : Bounds) (vs : List ℤ) (d rest : List ℕ) → are_legal bounds d ≡ true
    → one_from bounds vs (length d ∷ d ++ rest)
    ≡ (if length vs == size_of d then Ok (record { tensor = record { dims = d; values = vs }; rest = rest }) else Err OtherArrays)
one_from-recorded bounds vs d rest legal =
    let within : nat_le (length d) (length (d ++ rest)) ≡ true = le-leb (length d) (length (d ++ rest)) (omega (arith, length-append d rest)) in
    rw (within, take-append_seam d rest, drop-append_seam d rest, legal) refl

-- tensors that were dealt, and the numbers behind their dims
abbrev pub told : List ℕ → Result (List Contents) Refusal → Result Dealing Refusal
told rest (Ok ts) = Ok (record { tensors = ts; rest = rest })
told rest (Err f) = Err f

pub all_from-recorded : (bounds : Bounds) (arrays : List (List ℤ)) (ds : List (List ℕ)) (rest : List ℕ)
    → length ds ≡ length arrays → all_legal bounds ds ≡ true
    → all_from bounds arrays (recorded_dims ds rest) ≡ told rest (dealt ds arrays)
all_from-recorded bounds [] [] rest same legal = refl
all_from-recorded bounds [] (d ∷ ds) rest same legal = absurd (omega arith)
all_from-recorded bounds (vs ∷ arrays) [] rest same legal = absurd (omega arith)
all_from-recorded bounds (vs ∷ arrays) (d ∷ ds) rest same legal =
    let parts = and_parts (are_legal bounds d) (all_legal bounds ds) legal in
    ap (next_from (all_from bounds arrays)) (one_from-recorded bounds vs d (recorded_dims ds rest) parts.0)
    ∙ by_size (length vs == size_of d) (by_dealt (dealt ds arrays) (all_from-recorded bounds arrays ds rest (omega arith) parts.1))
  where
    by_dealt : (r : Result (List Contents) Refusal) → all_from bounds arrays (recorded_dims ds rest) ≡ told rest r
        → after (record { dims = d; values = vs } ∷ []) (all_from bounds arrays (recorded_dims ds rest)) ≡ told rest (before (record { dims = d; values = vs }) r)
    by_dealt (Ok ts) is = rw is refl
    by_dealt (Err f) is = rw is refl

    by_size : (b : Bool)
        → after (record { dims = d; values = vs } ∷ []) (all_from bounds arrays (recorded_dims ds rest)) ≡ told rest (before (record { dims = d; values = vs }) (dealt ds arrays))
        → next_from (all_from bounds arrays) (if b then Ok (record { tensor = record { dims = d; values = vs }; rest = recorded_dims ds rest }) else Err OtherArrays)
        ≡ told rest (if b then before (record { dims = d; values = vs }) (dealt ds arrays) else Err OtherArrays)
    by_size true more = more
    by_size false more = refl

-- arrays that are too few or too many are dealt to nobody
pub dealt-other : (ds : List (List ℕ)) (arrays : List (List ℤ)) → length ds ≢ length arrays → dealt ds arrays ≡ Err OtherArrays
dealt-other [] [] other = absurd (other refl)
dealt-other [] (vs ∷ arrays) other = refl
dealt-other (d ∷ ds) [] other = refl
dealt-other (d ∷ ds) (vs ∷ arrays) other =
    let rest = dealt-other ds arrays (λ same. other (omega arith)) in by_size (length vs == size_of d) rest
  where
    by_size : (b : Bool) → dealt ds arrays ≡ Err OtherArrays
        → (if b then before (record { dims = d; values = vs }) (dealt ds arrays) else Err OtherArrays) ≡ Err OtherArrays
    by_size true rest = rw rest refl
    by_size false rest = refl

-- arrays that are dealt have the dims that they are dealt to
pub dims_of_all-dealt : (ds : List (List ℕ)) (arrays : List (List ℤ)) (ts : List Contents) → dealt ds arrays ≡ Ok ts → dims_of_all ts ≡ ds
dims_of_all-dealt [] [] [] is = refl
dims_of_all-dealt [] [] (t ∷ ts) is = absurd (cc)
dims_of_all-dealt [] (vs ∷ arrays) ts is = absurd (cc)
dims_of_all-dealt (d ∷ ds) [] ts is = absurd (cc)
dims_of_all-dealt (d ∷ ds) (vs ∷ arrays) ts is =
    by_size (length vs == size_of d) (λ us rest. dims_of_all-dealt ds arrays us rest) (dealt ds arrays) refl is
  where
    by_size : (b : Bool) → ((us : List Contents) → dealt ds arrays ≡ Ok us → dims_of_all us ≡ ds)
        → (r : Result (List Contents) Refusal) → dealt ds arrays ≡ r
        → (if b then before (record { dims = d; values = vs }) r else Err OtherArrays) ≡ Ok ts → dims_of_all ts ≡ d ∷ ds
    by_size false behind r rest is = absurd (cc)
    by_size true behind (Err f) rest is = absurd (cc)
    by_size true behind (Ok us) rest is =
        let t : Contents = record { dims = d; values = vs } in
        let same : t ∷ us ≡ ts = cc in
        ap dims_of_all (sym same) ∙ ap (λ l. d ∷ l) (behind us rest)

-- legal dims are within the bounds
pub all_legal-within : (bounds : Bounds) (ts : List Contents) → all_legal bounds (dims_of_all ts) ≡ true → AreWithin bounds ts
all_legal-within bounds [] legal n within = absurd (omega arith)
all_legal-within bounds (t ∷ ts) legal zero within =
    let parts = and_parts (are_legal bounds t.dims) (all_legal bounds (dims_of_all ts)) legal in
    let both = and_parts (nat_le (length t.dims) bounds.rank) (nat_le (bulk_of t.dims) bounds.elements) parts.0 in
    record {
      rank = leb-true (length t.dims) bounds.rank both.0;
      elements = leb-true (bulk_of t.dims) bounds.elements both.1;
    }
all_legal-within bounds (t ∷ ts) legal (suc n) within =
    let parts = and_parts (are_legal bounds t.dims) (all_legal bounds (dims_of_all ts)) legal in
    all_legal-within bounds ts parts.1 n (omega arith)

pub length-dims_of_all : (ts : List Contents) → length (dims_of_all ts) ≡ length ts
length-dims_of_all [] = refl
length-dims_of_all (t ∷ ts) = ap suc (length-dims_of_all ts)

pub length-arrays_under : (arrays : List Array) → length (arrays_under arrays) ≡ length arrays
length-arrays_under [] = refl
length-arrays_under (a ∷ arrays) = ap suc (length-arrays_under arrays)

-- the dims of one tensor more
pub recorded_dims-take : (ts : List Contents) (i : ℕ) (rest : List ℕ) → i < length ts
    → recorded_dims (dims_of_all (take i ts)) (length (input_of ts i).dims ∷ (input_of ts i).dims ++ rest)
    ≡ recorded_dims (dims_of_all (take (suc i) ts)) rest
recorded_dims-take [] i rest within = absurd (omega arith)
recorded_dims-take (t ∷ ts) zero rest within = refl
recorded_dims-take (t ∷ ts) (suc i) rest within =
    ap (λ l. length t.dims ∷ t.dims ++ l) (recorded_dims-take ts i rest (omega arith))

pub all_legal-take : (bounds : Bounds) (ts : List Contents) (i : ℕ) → i < length ts → all_legal bounds (dims_of_all (take i ts)) ≡ true
    → are_legal bounds (input_of ts i).dims ≡ true → all_legal bounds (dims_of_all (take (suc i) ts)) ≡ true
all_legal-take bounds [] i within before here = absurd (omega arith)
all_legal-take bounds (t ∷ ts) zero within before here = and_from (are_legal bounds t.dims) true here refl
all_legal-take bounds (t ∷ ts) (suc i) within before here =
    let parts = and_parts (are_legal bounds t.dims) (all_legal bounds (dims_of_all (take i ts))) before in
    and_from (are_legal bounds t.dims) (all_legal bounds (dims_of_all (take (suc i) ts))) parts.0
    (all_legal-take bounds ts i (omega arith) parts.1 here)

pub false-true : false ≡ true → ⊥
false-true is = cc

-- dims within bounds are taken
pub within-taken : {A : Type 0} (bounds : Bounds) (d : List ℕ) (r : Result A ShapeFault) → IsWithin bounds d
    → (r ≡ Err RankTooHigh) ↔ (bounds.rank < length d)
    → (r ≡ Err TooManyElements) ↔ ((length d ≤ bounds.rank) × (bounds.elements < bulk_of d)) → is_ok r ≡ true
within-taken bounds d (Ok x) within rank elements = refl
within-taken bounds d (Err RankTooHigh) within rank elements = absurd (omega (arith, rank.0 refl, within.rank))
within-taken bounds d (Err TooManyElements) within rank elements =
    absurd (omega (arith, (elements.0 refl).1, within.elements))

pub are_legal-from : (bounds : Bounds) (d : List ℕ) → IsWithin bounds d → are_legal bounds d ≡ true
are_legal-from bounds d within =
    and_from (nat_le (length d) bounds.rank) (nat_le (bulk_of d) bounds.elements)
    (le-leb (length d) bounds.rank within.rank) (le-leb (bulk_of d) bounds.elements within.elements)

-- what was told of tensors that were dealt, or were not
pub told-ok : (rest : List ℕ) (r : Result (List Contents) Refusal) (d : Dealing) → told rest r ≡ Ok d → (r ≡ Ok d.tensors) × (d.rest ≡ rest)
told-ok rest (Err f) d is = absurd (cc)
told-ok rest (Ok ts) d is =
    let made : Dealing = record { tensors = ts; rest = rest } in
    let same : made ≡ d = cc in (ap (λ e. Ok e.tensors) same, sym (ap (λ e. e.rest) same))

pub told-err : (rest : List ℕ) (r : Result (List Contents) Refusal) (f : Refusal) → told rest r ≡ Err f → r ≡ Err f
told-err rest (Err g) f is = let same : g ≡ f = cc in ap Err same
told-err rest (Ok ts) f is = absurd (cc)

-- tensors that were read are those that are dealt to their dims
pub dealt-back : (bounds : Bounds) (arrays : List (List ℤ)) (ns : List ℕ) (d : Dealing) → all_from bounds arrays ns ≡ Ok d
    → dealt (dims_of_all d.tensors) arrays ≡ Ok d.tensors
dealt-back bounds arrays ns d is =
    let all = all_from-back bounds arrays ns d is in
    let ds = dims_of_all d.tensors in
    let read : told d.rest (dealt ds arrays) ≡ Ok d =
    sym (all_from-recorded bounds arrays ds d.rest (length-dims_of_all d.tensors ∙ all.many) all.legal)
    ∙ ap (all_from bounds arrays) (sym all.numbers) ∙ is in
    (told-ok d.rest (dealt ds arrays) d read).0

-- a list was put behind others
pub written-list : (new old list rest : List ℕ) → new ++ rest ≡ (old ++ list) ++ rest → new ++ rest ≡ old ++ (list ++ rest)
written-list new old list rest is = rw append_assoc at is

-- bounds that a record can say are told apart by it
same_elements : (b c : Bounds) → IsRecordable b → IsRecordable c → form_of b.elements ≡ form_of c.elements
    → b.elements ≡ c.elements
same_elements b c first second same =
    elim first.elements [
      | inl text ↦ elim second.elements [
        | inl both ↦ text ∙ sym both
        | inr other ↦ absurd (three-four (ap form_of (sym text) ∙ same ∙ ap form_of other))
      ]
      | inr wide ↦ elim second.elements [
        | inl other ↦ absurd (three-four (sym (ap form_of (sym wide) ∙ same ∙ ap form_of other)))
        | inr both ↦ wide ∙ sym both
      ]
    ]
  where
    three-four : ◌≡◌ {A = ℕ} 3 4 → ⊥
    three-four h = omega arith

same_bounds : (b c : Bounds) → b.rank ≡ c.rank → b.elements ≡ c.elements → b ≡ c
same_bounds b c rank elements = λ i. record { rank = rank i; elements = elements i }

pub same_prepared : (p q : Prepared) → p.bounds ≡ q.bounds → p.dims ≡ q.dims → p.bindings ≡ q.bindings → p.term ≡ q.term → p ≡ q
same_prepared p q bounds dims bindings term = λ i. record { bounds = bounds i; dims = dims i; bindings = bindings i; term = term i }

-- what the beginning of a record says
pub record Begun (q : Prepared) (arrays : List (List ℤ)) (b : Bounds) (n m : ℕ) (rest : List ℕ) : Type 0 where
  pub bounds : b ≡ q.bounds
  pub count : n ≡ length q.dims
  pub bindings : m ≡ length q.bindings
  pub dealing : n ≡ length arrays → all_from b arrays rest ≡ told (recorded_all (terms_of q) []) (dealt q.dims arrays)

pub begun : (q : Prepared) → IsPrepared q → (arrays : List (List ℤ)) (numbers rest : List ℕ) (b : Bounds) (n m : ℕ) → IsRecordable b
    → numbers ≡ form_of b.elements ∷ b.rank ∷ n ∷ m ∷ rest → numbers ≡ record_of q → Begun q arrays b n m rest
begun q ok arrays numbers rest b n m can here is =
    let both : form_of b.elements ∷ b.rank ∷ n ∷ m ∷ rest ≡ record_of q = sym here ∙ is in
    let form : form_of b.elements ≡ form_of q.bounds.elements = cc in
    let rank : b.rank ≡ q.bounds.rank = cc in
    let bounds = same_bounds b q.bounds rank (same_elements b q.bounds can ok.bounds form) in
    let count : n ≡ length q.dims = cc in
    let bindings : m ≡ length q.bindings = cc in
    let behind : rest ≡ recorded_dims q.dims (recorded_all (terms_of q) []) = cc in
    record {
      bounds = bounds;
      count = count;
      bindings = bindings;
      dealing = λ same. ap (λ s. all_from s arrays rest) bounds ∙ ap (all_from q.bounds arrays) behind
          ∙ all_from-recorded q.bounds arrays q.dims (recorded_all (terms_of q) []) (sym count ∙ same) ok.legal;
    }

-- numbers that begin so begin as a record
pub begins : (numbers rest : List ℕ) (bounds : Bounds) (inputs bindings : ℕ) → IsRecordable bounds → inputs + bindings < 2 ^ 32
    → numbers ≡ form_of bounds.elements ∷ bounds.rank ∷ inputs ∷ bindings ∷ rest → Begins numbers
begins numbers rest bounds inputs bindings can few here = record {
  bounds = bounds;
  inputs = inputs;
  bindings = bindings;
  rest = rest;
  recordable = can;
  few = few;
  here = here;
}

-- so does a record
pub Begins-record : (q : Prepared) → IsPrepared q → (numbers : List ℕ) → numbers ≡ record_of q → Begins numbers
Begins-record q ok numbers is =
    begins numbers (recorded_dims q.dims (recorded_all (terms_of q) [])) q.bounds (length q.dims) (length q.bindings) ok.bounds ok.few is

-- the numbers of a record, from what was read of them
pub found-written : (numbers rest behind : List ℕ) (b : Bounds) (n m : ℕ) (ts : List Contents) (bs all : List Term)
    → numbers ≡ form_of b.elements ∷ b.rank ∷ n ∷ m ∷ rest → rest ≡ recorded_dims (dims_of_all ts) behind → behind ≡ recorded_all all []
    → n ≡ length ts → m ≡ length bs
    → numbers ≡ form_of b.elements ∷ b.rank ∷ length (dims_of_all ts) ∷ length bs ∷ recorded_dims (dims_of_all ts) (recorded_all all [])
found-written numbers rest behind b n m ts bs all here dims trees count many =
    rw (length-dims_of_all ts, ← count, ← many)
    (here ∙ ap (λ l. form_of b.elements ∷ b.rank ∷ n ∷ m ∷ l) (dims ∙ ap (recorded_dims (dims_of_all ts)) trees))
