-- Lists of values, item by item.
use Rattle.std.proofs.Common.{◌≡◌, ℕ, ◌<◌, List, [], ◌∷◌, ◌++◌, length, Option, Some, None}
use Rattle.std.proofs.Common.{◌⊎◌, inl, inr, ◌≤◌}
use Rattle.std.proofs.Common.{option_map, option_and_then, refl, ap, sym, ◌∙◌, arith, ℤ, suc, ◌==◌}
use Rattle.std.proofs.Common.{if◌then◌else◌, ◌+◌, get_or, drop, add-one, drop-cons, append_assoc}
use Rattle.std.proofs.lemmas.List.{append-nil, drop_all}
use Rattle.std.proofs.lemmas.Bool.{eq-eqb, ne_eqb, lt-leb}
use Rattle.tensor_ops.specs.Bounds.{Bounds}
use Rattle.tensor_ops.specs.Legal.{are_legal}
use Rattle.serde_json.specs.Data.{Data, Items, no_items, item}
use Rattle.serde_json.specs.Events.{items_len}
use Rattle.serde_json.specs.Find.{as_array}
use Rattle.serde_json.specs.View.{view, items_view}
use Rattle.serde_json.specs.declared.value.Value.{Value}
use Rattle.expr_reader.specs.Arguments.{size_in, pair_of, pair_in}
use Rattle.expr_reader.specs.Fields.{whole_of, signed_of, each_of, cons_of, list_in}
use Rattle.expr_reader.specs.Tensors.{dims_in, values_in}
use Rattle.expr_reader.specs.declared.fault.Fault.{Fault}
use Rattle.expr_reader.specs.declared.fault.Fault.TheVariants.{NoMemory}

-- what was taken, before the rest
abbrev pub after : {A : Type 0} → List A → Option (List A) → Option (List A)
after done rest = option_map (λ more. done ++ more) rest

-- one item more was taken, behind those that were
pub after-cons_of : {A : Type 0} (done : List A) (x : A) (rest : Option (List A)) → after done (cons_of (Some x) rest) ≡ after (done ++ x ∷ []) rest
after-cons_of done x None = refl
after-cons_of done x (Some xs) = ap Some (simp append_assoc)

-- which is one of the values of a list, where those before it were taken
pub after-next : {A : Type 0} (f : Data → Option A) (done more : List A) (vs : List Value) (i : ℕ) (d : Value) (x : A) (whole : Option (List A))
    → i < length vs → f (view (get_or vs i d)) ≡ Some x → more ≡ done ++ x ∷ []
    → after done (each_of f (items_view (drop i vs))) ≡ whole → after more (each_of f (items_view (drop (i + 1) vs))) ≡ whole
after-next f done more vs i d x whole within is taken before =
    let rest = each_of f (items_view (drop (i + 1) vs)) in
    let cons : drop i vs ≡ get_or vs i d ∷ drop (i + 1) vs = rw (add-one, drop-cons vs i d within) refl in
    ap (λ l. after l rest) taken
    ∙ sym (ap (λ l. after done (each_of f (items_view l))) cons ∙ ap (λ head. after done (cons_of head rest)) is ∙ after-cons_of done x rest)
    ∙ before

-- nothing was taken yet
pub after-nothing : {A : Type 0} (rest : Option (List A)) → after [] rest ≡ rest
after-nothing None = refl
after-nothing (Some xs) = refl

-- the items of a value that is a list
pub list_in-items : {A : Type 0} (f : Data → Option A) (d : Data) (vs : List Value)
    → Some (items_view vs) ≡ as_array d → list_in f d ≡ each_of f (items_view vs)
list_in-items f d vs found = ap (option_and_then (each_of f)) (sym found)

module _ {A : Type 0} (f : Data → Option A) (done : List A) (vs : List Value) (i : ℕ)
    (whole : Option (List A)) (before : after done (each_of f (items_view (drop i vs))) ≡ whole) where
  -- at the end everything was taken
  pub after-end : length vs ≤ i → whole ≡ Some done
  after-end end =
      sym before ∙ ap (λ l. after done (each_of f (items_view l))) (drop_all i vs end)
      ∙ ap Some (append-nil done)

  -- a value that is no item
  pub after-none : (d : Value) → i < length vs → f (view (get_or vs i d)) ≡ None → whole ≡ None
  after-none d within is =
      sym before ∙ ap (λ l. after done (each_of f (items_view l))) (drop-cons vs i d within)
      ∙ ap (λ head. after done (cons_of head (each_of f (items_view (drop (suc i) vs))))) is

-- the fault of a part is that of the whole
pub whole-fault : {A B : Type 0} {fault e : Fault} {part : Option A} {whole : Option B}
    → (e ≡ NoMemory) ⊎ ((e ≡ fault) × (part ≡ None)) → (part ≡ None → whole ≡ None)
    → (e ≡ NoMemory) ⊎ ((e ≡ fault) × (whole ≡ None))
whole-fault h none = elim h [
  | inl memory ↦ inl memory
  | inr found ↦ inr (found.0, none found.1)
]

-- a head and a rest have one item more than the rest
length-cons_of : {A : Type 0} (head : Option A) (rest : Option (List A)) (xs : List A) → cons_of head rest ≡ Some xs
    → (more : List A) × (rest ≡ Some more) × (length xs ≡ suc (length more))
length-cons_of None rest xs h = (cc)
length-cons_of (Some x) None xs h = (cc)
length-cons_of (Some x) (Some more) xs h = let same : x ∷ more ≡ xs = cc in (more, refl, ap length (sym same))

-- as many answers as items
pub length-each_of : {A : Type 0} (f : Data → Option A) (ds : Items) (xs : List A) → each_of f ds ≡ Some xs → length xs ≡ items_len ds
length-each_of f no_items xs h = let same : [] ≡ xs = cc in ap length (sym same)
length-each_of f (item d ds) xs h =
    let parts = length-cons_of (f d) (each_of f ds) xs h in
    parts.2 ∙ ap suc (length-each_of f ds parts.0 parts.1)

-- a list of another length is no pair
pub pair_in-other : (d : Data) (ds : Items) → as_array d ≡ Some ds → (items_len ds ≡ 2 → ⊥) → pair_in d ≡ None
pair_in-other d ds is other = rw is (none (each_of size_in ds) (length-each_of size_in ds))
  where
    none : (sizes : Option (List ℕ)) → ((xs : List ℕ) → sizes ≡ Some xs → length xs ≡ items_len ds)
        → option_and_then pair_of sizes ≡ None
    none None long = refl
    none (Some []) long = refl
    none (Some (x ∷ [])) long = refl
    none (Some (x ∷ y ∷ [])) long = absurd (other (sym (long (x ∷ y ∷ []) refl)))
    none (Some (x ∷ y ∷ z ∷ more)) long = refl

-- a list of another length has no such values
pub values_in-other : (size : ℕ) (d : Data) (ds : Items) → as_array d ≡ Some ds → (items_len ds ≡ size → ⊥) → values_in size d ≡ None
values_in-other size d ds is other = rw is (none (each_of signed_of ds) (length-each_of signed_of ds))
  where
    none : (values : Option (List ℤ)) → ((xs : List ℤ) → values ≡ Some xs → length xs ≡ items_len ds)
        → option_and_then (λ xs. if length xs == size then Some xs else None) values ≡ None
    none None long = refl
    none (Some xs) long =
        let differs : length xs ≡ size → ⊥ = λ h. other (sym (long xs refl) ∙ h) in
        rw (ne_eqb (length xs) size differs) refl

-- one of this length has those that it is
pub values_in-same : (size : ℕ) (d : Data) (ds : Items) → as_array d ≡ Some ds → items_len ds ≡ size → values_in size d ≡ list_in signed_of d
values_in-same size d ds is same = rw is (some (each_of signed_of ds) (length-each_of signed_of ds))
  where
    some : (values : Option (List ℤ)) → ((xs : List ℤ) → values ≡ Some xs → length xs ≡ items_len ds)
        → option_and_then (λ xs. if length xs == size then Some xs else None) values ≡ values
    some None long = refl
    some (Some xs) long = rw (eq-eqb (length xs) size (long xs refl ∙ same)) refl

-- too long a list is no legal dims
pub dims_in-long : (bounds : Bounds) (d : Data) (ds : Items) → as_array d ≡ Some ds → bounds.rank < items_len ds → dims_in bounds d ≡ None
dims_in-long bounds d ds is long = rw is (none (each_of whole_of ds) (length-each_of whole_of ds))
  where
    none : (dims : Option (List ℕ)) → ((xs : List ℕ) → dims ≡ Some xs → length xs ≡ items_len ds)
        → option_and_then (λ xs. if are_legal bounds xs then Some xs else None) dims ≡ None
    none None same = refl
    none (Some xs) same = rw (lt-leb (length xs) bounds.rank (omega (arith, same xs refl))) refl
