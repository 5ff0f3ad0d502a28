-- Bindings one behind the other, and the walk over an expression's bindings.
use Rattle.std.proofs.Common.{◌≡◌, ℕ, zero, suc, ◌+◌, ◌<◌, ◌≤◌, List, [], ◌∷◌, ◌++◌, length, map, Vec, Global}
use Rattle.std.proofs.Common.{get_or, Bool, true, false, Option, Some, None, Ok, Err, OnErr, ok_or, Result, refl, ap, sym, subst}
use Rattle.std.proofs.Common.{◌∙◌, inl, inr, ◌==◌, if◌then◌else◌, arith, is_ok, slice_get}
use Rattle.std.proofs.lemmas.Bool.{lt-leb, le-leb}
use Rattle.std.proofs.lemmas.List.{length-append, length-map, map-append, get_or_append_left, append_assoc, append-nil}
use Rattle.std.proofs.Math.Seq.{get_or-append_seam}
use Rattle.std.specs.List.{position_from}
use Rattle.std.specs.Option.{option_or}
use Rattle.std.specs.Result.{result_unwrap_or}
use Rattle.std.specs.Str.{bytes_eq}
use Rattle.serde_json.specs.Data.{Data, null, boolean, number, string, array, object, Items, no_items, item}
use Rattle.serde_json.specs.Events.{items_len}
use Rattle.serde_json.specs.View.{view, items_view}
use Rattle.serde_json.specs.declared.value.Value.{Value, Array}
use Rattle.serde_json.proofs.Views.{view-Array, items_len-items_view}
use Rattle.tensor_ops.specs.Bounds.{Bounds}
use Rattle.tensor_ops.specs.Contents.{Contents, input_of, nothing}
use Rattle.tensor_ops.specs.Legal.{widest, IsPossible}
use Rattle.tensor_ops.specs.Result.{dims_of, shape_of}
use Rattle.tensor_ops.specs.Sequence.{worked_out}
use Rattle.tensor_ops.specs.Term.{Term}
use Rattle.tensor_ops.specs.Value.{tensor_of}
use Rattle.tensor_terms.proofs.Widening.{dims_of-wider}
use Rattle.expr_reader.specs.Bindings.{term_under, terms_under, IsBound, AreBound}
use Rattle.expr_reader.specs.Expression.{Expression, unbound, behind, is_let, new_name, with_binding}
use Rattle.expr_reader.specs.Expression.{expression_at, bound_at}
use Rattle.expr_reader.specs.Node.{Tree, tree_at, within_limit}
use Rattle.expr_reader.specs.Place.{Located, index, here, at, below, way_of}
use Rattle.expr_reader.specs.private.Numbers.{number_in}
use Rattle.expr_reader.specs.private.Shown.{IsNamed}
use Rattle.expr_reader.specs.private.Walked.{tree_under, is_binding, IsShaped, IsFound, IsBehind, IsReadBehind}
use Rattle.expr_reader.specs.Profile.{Profile, version_1, version_2, profile_of}
use Rattle.expr_reader.specs.Steps.{map_found}
use Rattle.expr_reader.specs.Tensors.{Named, given, number_of}
use Rattle.expr_reader.specs.declared.fault.Fault.{Fault}
use Rattle.expr_reader.specs.declared.fault.Fault.TheVariants.{BadArity, BadArgument, TooLarge}
use Rattle.expr_reader.specs.declared.named.NamedInputs.{NamedInputs}
use Rattle.expr_reader.specs.declared.node.Subtree.{Subtree}
use Rattle.expr_reader.specs.declared.binding.Binding.{Binding}
use Rattle.expr_reader.proofs.Numbers.{option_or-option_or, position_from-cons}
use Rattle.expr_reader.proofs.Walk.{way_of-append, get_or-at}

-- the tensors of terms stand behind those that there were
pub length-worked_out : (ts : List Term) (xs : List Contents)
    → length (worked_out ts xs) ≡ length xs + length ts
length-worked_out [] xs = omega arith
length-worked_out (t ∷ ts) xs =
    omega (arith, length-worked_out ts (xs ++ tensor_of t xs ∷ []), length-append xs (tensor_of t xs ∷ []))

pub worked_out-before : (ts : List Term) (xs : List Contents) (k : ℕ) → k < length xs
    → input_of (worked_out ts xs) k ≡ input_of xs k
worked_out-before [] xs k below = refl
worked_out-before (t ∷ ts) xs k below =
    worked_out-before ts (xs ++ tensor_of t xs ∷ []) k (omega (arith, length-append xs (tensor_of t xs ∷ [])))
    ∙ get_or_append_left xs (tensor_of t xs ∷ []) nothing k below

-- one term more
pub worked_out-append : (ts : List Term) (t : Term) (xs : List Contents)
    → worked_out (ts ++ t ∷ []) xs ≡ worked_out ts xs ++ tensor_of t (worked_out ts xs) ∷ []
worked_out-append [] t xs = refl
worked_out-append (s ∷ ts) t xs = worked_out-append ts t (xs ++ tensor_of s xs ∷ [])

pub terms_under-append : (bs : List Binding) (b : Binding)
    → terms_under (bs ++ b ∷ []) ≡ terms_under bs ++ term_under b ∷ []
terms_under-append bs b = map-append term_under bs (b ∷ [])

module _ (bounds : Bounds) where
  -- one binding more
  pub AreBound-append : (bs : List Binding) (b : Binding) (xs : List Contents) → AreBound bounds bs xs
      → IsBound bounds b (worked_out (terms_under bs) xs) → AreBound bounds (bs ++ b ∷ []) xs
  AreBound-append [] b xs are is = (is, tt)
  AreBound-append (c ∷ bs) b xs are is =
      (are.0, AreBound-append bs b (xs ++ tensor_of (term_under c) xs ∷ []) are.1 is)

  -- the dims of a binding's tensor
  dims-bound : IsPossible bounds → (b : Binding) (xs : List Contents) → IsBound bounds b xs
      → (tensor_of (term_under b) xs).dims ≡ b.dims
  dims-bound possible b xs is =
      let wider : dims_of widest (term_under b) xs ≡ dims_of bounds (term_under b) xs =
      (dims_of-wider bounds possible (term_under b) xs).same (ap is_ok is.dims) in
      ap (λ r. result_unwrap_or r []) (wider ∙ is.dims)

  pub dims-binding : IsPossible bounds → (bs : List Binding) (xs : List Contents) (k i : ℕ) (d : Binding)
      → AreBound bounds bs xs → k ≡ length xs + i → i < length bs
      → (input_of (worked_out (terms_under bs) xs) k).dims ≡ (get_or bs i d).dims
  dims-binding possible [] xs k i d are place below = absurd (omega arith)
  dims-binding possible (b ∷ bs) xs k zero d are place below =
      let t : Contents = tensor_of (term_under b) xs in
      let here : k ≡ length xs = omega (arith, place) in
      ap (λ c. c.dims) (worked_out-before (terms_under bs) (xs ++ t ∷ []) k
      (omega (arith, here, length-append xs (t ∷ [])))
      ∙ ap (input_of (xs ++ t ∷ [])) here ∙ get_or-append_seam xs t [] nothing)
      ∙ dims-bound possible b xs are.0
  dims-binding possible (b ∷ bs) xs k (suc i) d are place below =
      let t : Contents = tensor_of (term_under b) xs in
      dims-binding possible bs (xs ++ t ∷ []) k i d are.1
      (omega (arith, place, length-append xs (t ∷ []))) (omega (arith, below))

-- one name more
position_from-append : (q name : List ℕ) (names : List (List ℕ)) (n : ℕ)
    → position_from (λ other. bytes_eq q other) n (names ++ name ∷ [])
    ≡ option_or (position_from (λ other. bytes_eq q other) n names)
    (if bytes_eq q name then Some (n + length names) else None)
position_from-append q name [] n =
    let place : n + 0 ≡ n = omega arith in
    rw place (last (bytes_eq q name))
  where
    last : (is : Bool) → (if is then Some n else None) ≡ option_or None (if is then Some n else None)
    last true = refl
    last false = refl
position_from-append q name (other ∷ names) n =
    let place : n + 1 + length names ≡ n + suc (length names) = omega arith in
    position_from-cons q other (names ++ name ∷ []) n
    ∙ ap (option_or (if bytes_eq q other then Some n else None)) (position_from-append q name names (n + 1))
    ∙ sym (option_or-option_or (if bytes_eq q other then Some n else None)
    (position_from (λ o. bytes_eq q o) (n + 1) names) (if bytes_eq q name then Some (n + 1 + length names) else None))
    ∙ ap (λ r. option_or r (if bytes_eq q name then Some (n + 1 + length names) else None))
    (sym (position_from-cons q other names n))
    ∙ ap (λ m. option_or (position_from (λ o. bytes_eq q o) n (other ∷ names))
    (if bytes_eq q name then Some m else None)) place

pub number_of-append : (names : List (List ℕ)) (name q : List ℕ)
    → number_of (names ++ name ∷ []) q
    ≡ option_or (number_of names q) (if bytes_eq q name then Some (length names) else None)
number_of-append names name q =
    let place : 0 + length names ≡ length names = omega arith in
    position_from-append q name names 0
    ∙ ap (λ m. option_or (number_of names q) (if bytes_eq q name then Some m else None)) place

-- an expression without bindings is its tree
pub expression_at-tree : (profile : Profile) (named : Named) (n : ℕ) (d : Data)
    → is_binding profile d ≡ false
    → expression_at profile named n d ≡ map_found unbound (tree_at profile named n d)
expression_at-tree profile named n null other = refl
expression_at-tree profile named n (boolean b) other = refl
expression_at-tree profile named n (number x) other = refl
expression_at-tree profile named n (object ms) other = refl
expression_at-tree profile named n (string name) other = refl
expression_at-tree profile named n (array no_items) other = refl
expression_at-tree profile named n (array (item head rest)) other = rw other refl

-- a node that binds, by the elements of its array
module _ (profile : Profile) (named : Named) (n : ℕ) (v : Value) (list : Vec Value Global)
    (is : v ≡ Array list) (binding : is_binding profile (view v) ≡ true) where
  whole : (vs : List Value) → list.items ≡ vs → view v ≡ array (items_view vs)
  whole vs same = ap view is ∙ view-Array list ∙ ap (λ l. array (items_view l)) same

  expression_at-let : (x : Value) (vs : List Value) → list.items ≡ x ∷ vs
      → expression_at profile named n (view v)
      ≡ within_limit profile n (bound_at profile named n (items_view vs))
  expression_at-let x vs same =
      let head : is_let profile (view x) ≡ true = rw (whole (x ∷ vs) same) at binding in
      rw (whole (x ∷ vs) same, head) refl

  some : (vs : List Value) → list.items ≡ vs → vs ≡ [] → ⊥
  some vs same none =
      let empty : list.items ≡ [] = same ∙ none in
      let no : false ≡ true = rw (whole [] empty) at binding in (cc)

  -- one node too many
  pub expression_at-large : profile.nodes ≤ n
      → expression_at profile named n (view v) ≡ Err (here TooLarge)
  expression_at-large many = from list.items refl
    where
      from : (vs : List Value) → list.items ≡ vs
          → expression_at profile named n (view v) ≡ Err (here TooLarge)
      from [] same = absurd (some [] same refl)
      from (x ∷ vs) same = expression_at-let x vs same ∙ rw (le-leb profile.nodes n many) refl

  bound_at-arity : (rest : Items) → (items_len rest ≡ 3 → ⊥)
      → bound_at profile named n rest ≡ Err (here BadArity)
  bound_at-arity no_items other = refl
  bound_at-arity (item d no_items) other = refl
  bound_at-arity (item d (item e no_items)) other = refl
  bound_at-arity (item d (item e (item f (item g rest)))) other = refl
  bound_at-arity (item d (item e (item f no_items))) other = absurd (other refl)

  module _ (few : n < profile.nodes) where
    -- an array of another length
    pub expression_at-arity : (length list.items ≡ 4 → ⊥)
        → expression_at profile named n (view v) ≡ Err (here BadArity)
    expression_at-arity other = from list.items refl
      where
        from : (vs : List Value) → list.items ≡ vs
            → expression_at profile named n (view v) ≡ Err (here BadArity)
        from [] same = absurd (some [] same refl)
        from (x ∷ vs) same =
            let long : length list.items ≡ suc (length vs) = ap length same in
            expression_at-let x vs same
            ∙ rw (lt-leb profile.nodes n few) (bound_at-arity (items_view vs)
            (λ three. other (omega (arith, long, three, items_len-items_view vs))))

    -- a name, a tree and an expression
    expression_at-bound : (d e f : Value) → length list.items ≡ 4
        → d ≡ get_or list.items 1 d → e ≡ get_or list.items 2 e → f ≡ get_or list.items 3 f
        → expression_at profile named n (view v)
        ≡ bound_at profile named n (item (view d) (item (view e) (item (view f) no_items)))
    expression_at-bound d e f long first second third = from list.items refl long first second third
      where
        from : (vs : List Value) → list.items ≡ vs → length vs ≡ 4 → d ≡ get_or vs 1 d
            → e ≡ get_or vs 2 e → f ≡ get_or vs 3 f
            → expression_at profile named n (view v)
            ≡ bound_at profile named n (item (view d) (item (view e) (item (view f) no_items)))
        from [] same long first second third = absurd (omega arith)
        from (x ∷ []) same long first second third = absurd (omega arith)
        from (x ∷ y ∷ []) same long first second third = absurd (omega arith)
        from (x ∷ y ∷ z ∷ []) same long first second third = absurd (omega arith)
        from (x ∷ y ∷ z ∷ w ∷ []) same long first second third =
            rw (first, second, third)
            (expression_at-let x (y ∷ z ∷ w ∷ []) same ∙ rw (lt-leb profile.nodes n few) refl)
        from (x ∷ y ∷ z ∷ w ∷ u ∷ vs) same long first second third = absurd (omega arith)

    -- its name is no string, or is there
    pub expression_at-name : (d : Value) → length list.items ≡ 4 → d ≡ get_or list.items 1 d
        → new_name named (view d) ≡ None
        → expression_at profile named n (view v) ≡ Err (at (index 1) BadArgument)
    expression_at-name d long first none =
        expression_at-bound d (get_or list.items 2 d) (get_or list.items 3 d) long first
        (get_or-at list.items 2 d (omega (arith, long))) (get_or-at list.items 3 d (omega (arith, long)))
        ∙ rw none refl

    -- the tree of its tensor has a fault
    pub expression_at-tensor : (d e : Value) (name : List ℕ) (l : Located) → length list.items ≡ 4
        → d ≡ get_or list.items 1 d → e ≡ get_or list.items 2 e → new_name named (view d) ≡ Some name
        → below (index 2) (tree_at profile named (n + 1) (view e)) ≡ Err l
        → expression_at profile named n (view v) ≡ Err l
    expression_at-tensor d e name l long first second is_new fault =
        expression_at-bound d e (get_or list.items 3 d) long first second
        (get_or-at list.items 3 d (omega (arith, long)))
        ∙ rw (is_new, fault) refl

    -- the expression behind it
    pub expression_at-behind : (d e f : Value) (name : List ℕ) (x : Tree) → length list.items ≡ 4
        → d ≡ get_or list.items 1 d → e ≡ get_or list.items 2 e → f ≡ get_or list.items 3 f
        → new_name named (view d) ≡ Some name
        → below (index 2) (tree_at profile named (n + 1) (view e)) ≡ Ok x
        → expression_at profile named n (view v)
        ≡ map_found (behind x.term) (below (index 3)
        (expression_at profile (with_binding named name x.term) x.end (view f)))
    expression_at-behind d e f name x long first second third is_new tree =
        expression_at-bound d e f long first second third ∙ rw (is_new, tree) refl

-- names and their tensors, with one binding more
module _ (bounds : Bounds) (n : Named) (old new : NamedInputs) (name : List ℕ) (b : Binding) (number : ℕ)
    (named : IsNamed old bounds n) (is : IsBound bounds b n.tensors) (inputs : new.inputs ≡ old.inputs)
    (items : new.bindings.items ≡ old.bindings.items ++ b ∷ [])
    (count : number ≡ length old.inputs.tensors + length old.bindings.items)
    (numbers : (q : List ℕ) → number_in new.numbers q
    ≡ option_or (number_in old.numbers q) (if bytes_eq q name then Some number else None)) where
  terms-more : terms_under new.bindings.items ≡ terms_under old.bindings.items ++ term_under b ∷ []
  terms-more = ap terms_under items ∙ terms_under-append old.bindings.items b

  tensors-more : worked_out (terms_under new.bindings.items) new.inputs.tensors
      ≡ n.tensors ++ tensor_of (term_under b) n.tensors ∷ []
  tensors-more =
      ap (λ i. worked_out (terms_under new.bindings.items) i.tensors) inputs
      ∙ ap (λ ts. worked_out ts old.inputs.tensors) terms-more
      ∙ worked_out-append (terms_under old.bindings.items) (term_under b) old.inputs.tensors
      ∙ ap (λ ts. ts ++ tensor_of (term_under b) ts ∷ []) named.tensors

  as_many : number ≡ length n.names
  as_many =
      omega (
        arith,
        count,
        named.aligned,
        ap length named.tensors,
        length-worked_out (terms_under old.bindings.items) old.inputs.tensors,
        length-map old.bindings.items term_under,
      )

  pub IsNamed-bind : IsNamed new bounds (with_binding n name (term_under b))
  IsNamed-bind = record {
    limit = ap (λ i. i.bounds) inputs ∙ named.limit;
    possible = named.possible;
    tensors = tensors-more;
    bound =
        subst (λ l. AreBound bounds l new.inputs.tensors) (sym items)
        (subst (λ i. AreBound bounds (old.bindings.items ++ b ∷ []) i.tensors) (sym inputs)
        (AreBound-append bounds old.bindings.items b old.inputs.tensors named.bound
        (subst (IsBound bounds b) (sym named.tensors) is)));
    aligned =
        omega (
          arith,
          named.aligned,
          length-append n.names (name ∷ []),
          length-append n.tensors (tensor_of (term_under b) n.tensors ∷ []),
        );
    numbers = λ q.
        numbers q
        ∙ ap (λ o. option_or o (if bytes_eq q name then Some number else None)) (named.numbers q)
        ∙ ap (λ k. option_or (number_of n.names q) (if bytes_eq q name then Some k else None)) as_many
        ∙ sym (number_of-append n.names name q);
  }

-- a tree alone, where these names stand for tensors
pub IsBehind-alone : (profile : Profile) (n : Named) (says : Result Tree Located) (named : NamedInputs)
    (tree : Subtree) → IsNamed named profile.bounds n → says ≡ Ok (tree_under tree)
    → IsShaped (given profile.bounds n) tree
    → IsBehind profile n (map_found unbound says) named named tree
IsBehind-alone profile n says named tree is says_so shaped = record {
  found = unbound (tree_under tree);
  says_so = ap (map_found unbound) says_so;
  tree_is = refl;
  inputs = refl;
  bindings = sym (append-nil (terms_under named.bindings.items));
  bound = is.bound;
  shaped = subst (λ ts. IsShaped (record { tensors = ts; bounds = profile.bounds }) tree) (sym is.tensors) shaped;
}

-- an expression behind one binding more
pub IsBehind-bound : (profile : Profile) (n m : Named) (t : Term) (says inner : Result Expression Located)
    (old mid new : NamedInputs) (tree : Subtree) → says ≡ map_found (behind t) (below (index 3) inner)
    → mid.inputs ≡ old.inputs
    → terms_under mid.bindings.items ≡ terms_under old.bindings.items ++ t ∷ []
    → IsBehind profile m inner mid new tree → IsBehind profile n says old new tree
IsBehind-bound profile n m t says inner old mid new tree says_so inputs bindings is = record {
  found = behind t is.found;
  says_so = says_so ∙ ap (λ r. map_found (behind t) (below (index 3) r)) is.says_so;
  tree_is = is.tree_is;
  inputs = is.inputs ∙ inputs;
  bindings =
      is.bindings ∙ ap (λ l. l ++ is.found.bindings) bindings
      ∙ append_assoc (terms_under old.bindings.items) (t ∷ []) is.found.bindings;
  bound = is.bound;
  shaped = is.shaped;
}

-- a tree without bindings that was read, or its fault, is what the expression says
pub IsReadBehind-alone : (profile : Profile) (n : Named) (m : ℕ) (d : Data) (named : NamedInputs)
    (indices : List ℕ) (r : Result Subtree Fault) → is_binding profile d ≡ false
    → IsNamed named profile.bounds n
    → IsFound (given profile.bounds n) (tree_at profile n m d) indices r
    → IsReadBehind profile n (expression_at profile n m d) named named indices r
IsReadBehind-alone profile n m d named indices (Ok tree) other is found =
    subst (λ says. IsBehind profile n says named named tree) (sym (expression_at-tree profile n m d other))
    (IsBehind-alone profile n (tree_at profile n m d) named tree is found.0 found.1)
IsReadBehind-alone profile n m d named indices (Err fault) other is found = elim found [
  | inl memory ↦ inl memory
  | inr says ↦ inr (expression_at-tree profile n m d other ∙ ap (map_found unbound) says)
]

pub IsReadBehind-bound : (profile : Profile) (n m : Named) (t : Term) (says inner : Result Expression Located)
    (old mid new : NamedInputs) (indices more : List ℕ) (r q : Result Subtree Fault)
    → says ≡ map_found (behind t) (below (index 3) inner) → mid.inputs ≡ old.inputs
    → terms_under mid.bindings.items ≡ terms_under old.bindings.items ++ t ∷ []
    → IsReadBehind profile m inner mid new indices r → q ≡ r → OnErr q (more ≡ indices ++ 3 ∷ [])
    → IsReadBehind profile n says old new more q
IsReadBehind-bound profile n m t says inner old mid new indices more (Ok tree) (Ok other) is inputs bindings found same pushed =
    let one : other ≡ tree = cc in
    subst (IsBehind profile n says old new) (sym one)
    (IsBehind-bound profile n m t says inner old mid new tree is inputs bindings found)
IsReadBehind-bound profile n m t says inner old mid new indices more (Ok tree) (Err fault) is inputs bindings found same pushed = (cc)
IsReadBehind-bound profile n m t says inner old mid new indices more (Err fault) (Ok tree) is inputs bindings found same pushed = (cc)
IsReadBehind-bound profile n m t says inner old mid new indices more (Err fault) (Err other) is inputs bindings found same pushed =
    let one : other ≡ fault = cc in elim found [
      | inl memory ↦ inl (one ∙ memory)
      | inr failed ↦
          inr (is ∙ ap (λ r. map_found (behind t) (below (index 3) r)) failed
          ∙ ap (λ place. Err (record { fault = fault; place = place }))
          (sym (ap way_of pushed ∙ way_of-append indices 3))
          ∙ ap (λ f. Err (record { fault = f; place = way_of more })) (sym one))
    ]

-- the versions of texts bind nothing
pub profile_of-binds : (k : ℕ) (p : Profile) → profile_of k ≡ Some p → p.binds ≡ false
profile_of-binds k p is = by (k == 1) (k == 2) is
  where
    by : (a b : Bool) → (if a then Some version_1 else (if b then Some version_2 else None)) ≡ Some p
        → p.binds ≡ false
    by true b is = let same : version_1 ≡ p = cc in rw (← same) refl
    by false true is = let same : version_2 ≡ p = cc in rw (← same) refl
    by false false is = (cc)

is_binding-none : (profile : Profile) → profile.binds ≡ false → (d : Data)
    → is_binding profile d ≡ false
is_binding-none profile none null = refl
is_binding-none profile none (boolean b) = refl
is_binding-none profile none (number x) = refl
is_binding-none profile none (object ms) = refl
is_binding-none profile none (string name) = refl
is_binding-none profile none (array no_items) = refl
is_binding-none profile none (array (item head rest)) = rw none refl

pub bindings-none : (profile : Profile) → profile.binds ≡ false → (named : Named) (n : ℕ) (d : Data)
    (found : Expression) → expression_at profile named n d ≡ Ok found → found.bindings ≡ []
bindings-none profile none named n d found is =
    from (tree_at profile named n d)
    (sym (expression_at-tree profile named n d (is_binding-none profile none d)) ∙ is)
  where
    from : (r : Result Tree Located) → map_found unbound r ≡ Ok found → found.bindings ≡ []
    from (Ok tree) h = let same : unbound tree ≡ found = cc in rw (← same) refl
    from (Err l) h = (cc)

pub items-none : (bs : List Binding) → terms_under bs ≡ [] → bs ≡ []
items-none [] none = refl
items-none (b ∷ bs) none = (cc)
