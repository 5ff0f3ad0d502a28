-- The walk over the tree, a node at a time.
use Rattle.std.proofs.Common.{◌≡◌, ℕ, zero, suc, ◌+◌, ◌<◌, List, [], ◌∷◌, ◌++◌, length, get_or, drop, Vec, Global}
use Rattle.std.proofs.Common.{slice_get, map, ◌⊎◌, inl, inr, Some, Result, Ok, Err, refl, ap, sym, subst, ◌∙◌, arith}
use Rattle.std.proofs.lemmas.List.{reverse-append}
use Rattle.std.proofs.lemmas.Bool.{lt-leb, eq-eqb, ne_eqb}
use Rattle.serde_json.specs.Data.{Data, array, Items, no_items, item}
use Rattle.serde_json.specs.Events.{items_len}
use Rattle.serde_json.specs.View.{view, items_view}
use Rattle.serde_json.specs.declared.value.Value.{Value, Array}
use Rattle.serde_json.proofs.Views.{view-Array, items_len-items_view}
use Rattle.tensor_ops.specs.Bounds.{Bounds}
use Rattle.tensor_ops.specs.Contents.{Contents, Given}
use Rattle.std.specs.Prelude.{◌&&◌}
use Rattle.tensor_ops.specs.Result.{dims_of, operand_dims}
use Rattle.tensor_ops.specs.Term.{Term, Unary, Binary, Ternary, unary, binary, ternary, has_inputs}
use Rattle.expr_reader.specs.Arguments.{Form, Arguments, arguments_at}
use Rattle.expr_reader.specs.Node.{operation_at, applied, made, checked, tree_at}
use Rattle.expr_reader.specs.Place.{Step, Located, index, here, below, way_of}
use Rattle.expr_reader.specs.Profile.{Profile}
use Rattle.expr_reader.specs.Steps.{and_then, map_found}
use Rattle.expr_reader.specs.Table.{Operation, one, two, three, arity_of}
use Rattle.expr_reader.specs.Tensors.{given, Named}
use Rattle.expr_reader.specs.declared.fault.Fault.{Fault}
use Rattle.expr_reader.specs.declared.fault.Fault.TheVariants.{BadArity, NoMemory}

-- the last of the indices is the first step of the way
pub way_of-append : (indices : List ℕ) (i : ℕ) → way_of (indices ++ i ∷ []) ≡ index i ∷ way_of indices
way_of-append indices i = ap (map index) (reverse-append indices (i ∷ []))

-- a fault that is found below a step
pub fault-below : {A : Type 0} (step : Step) (says : Result A Located) (fault : Fault) (place : List Step)
    → (fault ≡ NoMemory) ⊎ (says ≡ Err (record { fault = fault; place = place }))
    → (fault ≡ NoMemory) ⊎ (below step says ≡ Err (record { fault = fault; place = step ∷ place }))
fault-below step says fault place h = elim h [
  | inl memory ↦ inl memory
  | inr found ↦ inr (ap (below step) found)
]

-- a fault that is found below an index, its place given by the indices on the way
pub fault-behind : {A : Type 0} (says : Result A Located) (indices : List ℕ) (i : ℕ) (fault : Fault)
    → (fault ≡ NoMemory) ⊎ (says ≡ Err (record { fault = fault; place = way_of indices }))
    → (fault ≡ NoMemory) ⊎ (below (index i) says ≡ Err (record { fault = fault; place = way_of (indices ++ i ∷ []) }))
fault-behind says indices i fault h =
    subst (λ p. (fault ≡ NoMemory) ⊎ (below (index i) says ≡ Err (record { fault = fault; place = p })))
    (sym (way_of-append indices i)) (fault-below (index i) says fault (way_of indices) h)

-- arguments that are read leave the operation's own checks
pub made-found : (inputs : Given) (fs : List Form) (i : ℕ) (items : Items) (make : Arguments fs → Term) (end : ℕ) (t : Term)
    → map_found make (arguments_at i fs items) ≡ Ok t → made inputs fs i items make end ≡ checked inputs t end
made-found inputs fs i items make end t found = from (arguments_at i fs items) found
  where
    from : (there : Result (Arguments fs) Located) → map_found make there ≡ Ok t
        → and_then there (λ a. checked inputs (make a) end) ≡ checked inputs t end
    from (Err l) h = (cc)
    from (Ok a) h = let same : make a ≡ t = cc in ap (λ u. checked inputs u end) same

-- what arguments make of an operand has that operand
pub made-unary : {A : Type 0} (make : A → Unary) (t u : Term) (there : Result A Located)
    → map_found (λ a. unary (make a) t) there ≡ Ok u → (bounds : Bounds) (inputs : List Contents) → operand_dims bounds u inputs ≡ dims_of bounds t inputs ∷ []
made-unary make t u (Err l) h bounds inputs = absurd (cc)
made-unary make t u (Ok a) h bounds inputs = let same : u ≡ unary (make a) t = cc in rw same refl

-- the inputs of an operation on one operand are the inputs of its operand
pub made-unary-inputs : {A : Type 0} (make : A → Unary) (t u : Term) (there : Result A Located)
    → map_found (λ a. unary (make a) t) there ≡ Ok u → (count : ℕ) → has_inputs u count ≡ has_inputs t count
made-unary-inputs make t u (Err l) h count = absurd (cc)
made-unary-inputs make t u (Ok a) h count = let same : u ≡ unary (make a) t = cc in rw same refl

-- the operand dims and inputs of an operation on two operands
pub made-binary : {A : Type 0} (make : A → Binary) (t s u : Term) (there : Result A Located)
    → map_found (λ a. binary (make a) t s) there ≡ Ok u
    → ((bounds : Bounds) (inputs : List Contents) → operand_dims bounds u inputs ≡ dims_of bounds t inputs ∷ dims_of bounds s inputs ∷ [])
    × ((count : ℕ) → has_inputs u count ≡ has_inputs t count && has_inputs s count)
made-binary make t s u (Err l) h = absurd (cc)
made-binary make t s u (Ok a) h =
    let same : u ≡ binary (make a) t s = cc in ((λ bounds inputs. rw same refl), (λ count. rw same refl))

-- each operation has an operand
no_operand : (o : Operation) → 1 ≡ 1 + arity_of o → ⊥
no_operand (one forms make) h = omega arith
no_operand (two forms make) h = omega arith
no_operand (three forms make) h = omega arith

get_or-within : (vs : List Value) (i : ℕ) (d e : Value) → i < length vs → get_or vs i d ≡ get_or vs i e
get_or-within [] i d e below = absurd (omega arith)
get_or-within (v ∷ vs) zero d e below = refl
get_or-within (v ∷ vs) (suc i) d e below = get_or-within vs i d e (omega arith)

-- a node of a known operation, by the elements of its array
module _ (profile : Profile) (named : Named) (n : ℕ) (few : n < profile.nodes) (o : Operation) (h v : Value)
    (list : Vec Value Global) (is : v ≡ Array list)
    (head : Some h ≡ slice_get list.items 0) (names : operation_at profile (view h) ≡ Ok o) where
  whole : (vs : List Value) → list.items ≡ vs → view v ≡ array (items_view vs)
  whole vs same = ap view is ∙ view-Array list ∙ ap (λ l. array (items_view l)) same

  called : (x : Value) (vs : List Value) → list.items ≡ x ∷ vs → operation_at profile (view x) ≡ Ok o
  called x vs same =
      let first : Some h ≡ slice_get (x ∷ vs) 0 = rw same at head in
      let as_named : x ≡ h = cc in rw as_named names

  -- an array of another length
  pub tree_at-arity : (length list.items ≡ 1 + arity_of o → ⊥) → tree_at profile named n (view v) ≡ Err (here BadArity)
  tree_at-arity other = from list.items refl head other
    where
      from : (vs : List Value) → list.items ≡ vs → Some h ≡ slice_get vs 0
          → (length vs ≡ 1 + arity_of o → ⊥) → tree_at profile named n (view v) ≡ Err (here BadArity)
      from [] same absent other = (cc)
      from (x ∷ vs) same found other =
          let differs : items_len (items_view vs) ≡ arity_of o → ⊥ = λ h. other (omega (arith, items_len-items_view vs, h)) in
          rw (whole (x ∷ vs) same, lt-leb profile.nodes n few, called x vs same, ne_eqb (items_len (items_view vs)) (arity_of o) differs) refl

  -- else it is applied
  pub tree_at-applied : (x : Value) (vs : List Value) → list.items ≡ x ∷ vs → length vs ≡ arity_of o
      → tree_at profile named n (view v) ≡ applied profile named n o (items_view vs)
  tree_at-applied x vs same long =
      let counted : items_len (items_view vs) ≡ arity_of o = items_len-items_view vs ∙ long in
      rw (whole (x ∷ vs) same, lt-leb profile.nodes n few, called x vs same, eq-eqb (items_len (items_view vs)) (arity_of o) counted) refl

  applied-first : (p : Operation) (a : Data) (rest : Items) (l : Located) → items_len (item a rest) ≡ arity_of p
      → below (index 1) (tree_at profile named (n + 1) a) ≡ Err l → applied profile named n p (item a rest) ≡ Err l
  applied-first (one forms make) a rest l long h = rw h refl
  applied-first (two forms make) a no_items l long h = absurd (omega arith)
  applied-first (two forms make) a (item b rest) l long h = rw h refl
  applied-first (three forms make) a no_items l long h = absurd (omega arith)
  applied-first (three forms make) a (item b no_items) l long h = absurd (omega arith)
  applied-first (three forms make) a (item b (item c rest)) l long h = rw h refl

  -- a fault in its first operand
  pub tree_at-first : (a : Value) → length list.items ≡ 1 + arity_of o → a ≡ get_or list.items 1 a → (l : Located)
      → below (index 1) (tree_at profile named (n + 1) (view a)) ≡ Err l → tree_at profile named n (view v) ≡ Err l
  tree_at-first a long first l h = from list.items refl long first
    where
      from : (vs : List Value) → list.items ≡ vs → length vs ≡ 1 + arity_of o → a ≡ get_or vs 1 a
          → tree_at profile named n (view v) ≡ Err l
      from [] same long first = absurd (omega arith)
      from (x ∷ []) same long first = absurd (no_operand o long)
      from (x ∷ y ∷ vs) same long first =
          tree_at-applied x (y ∷ vs) same (omega (arith, long))
          ∙ applied-first o (view y) (items_view vs) l (ap suc (items_len-items_view vs) ∙ omega (arith, long)) (rw first at h)

module _ (profile : Profile) (named : Named) (n : ℕ) (few : n < profile.nodes) (h v : Value)
    (list : Vec Value Global) (is : v ≡ Array list) (head : Some h ≡ slice_get list.items 0) where
  -- an operation on one operand, with its arguments
  pub tree_at-one : (forms : List Form) (make : Arguments forms → Unary) (a : Value)
      → operation_at profile (view h) ≡ Ok (one forms make)
      → length list.items ≡ 2 + length forms → a ≡ get_or list.items 1 a
      → tree_at profile named n (view v)
      ≡ and_then (below (index 1) (tree_at profile named (n + 1) (view a))) (λ x.
      made (given profile.bounds named) forms 2 (items_view (drop 2 list.items)) (λ args. unary (make args) x.term) x.end)
  tree_at-one forms make a names long first = from list.items refl long first
    where
      from : (vs : List Value) → list.items ≡ vs → length vs ≡ 2 + length forms → a ≡ get_or vs 1 a
          → tree_at profile named n (view v)
          ≡ and_then (below (index 1) (tree_at profile named (n + 1) (view a))) (λ x.
          made (given profile.bounds named) forms 2 (items_view (drop 2 vs)) (λ args. unary (make args) x.term) x.end)
      from [] same long first = absurd (omega arith)
      from (x ∷ []) same long first = absurd (omega arith)
      from (x ∷ y ∷ vs) same long first =
          rw first (tree_at-applied profile named n few (one forms make) h v list is head names x (y ∷ vs) same (omega (arith, long)))

  -- what is found of a node whose operation takes two operands
  pub tree_at-two : (forms : List Form) (make : Arguments forms → Binary) (a b : Value)
      → operation_at profile (view h) ≡ Ok (two forms make)
      → length list.items ≡ 3 + length forms → a ≡ get_or list.items 1 a → b ≡ get_or list.items 2 b
      → tree_at profile named n (view v)
      ≡ and_then (below (index 1) (tree_at profile named (n + 1) (view a))) (λ x. and_then (below (index 2) (tree_at profile named x.end (view b))) (λ y.
      made (given profile.bounds named) forms 3 (items_view (drop 3 list.items)) (λ args. binary (make args) x.term y.term) y.end))
  tree_at-two forms make a b names long first second = from list.items refl long first second
    where
      from : (vs : List Value) → list.items ≡ vs → length vs ≡ 3 + length forms → a ≡ get_or vs 1 a → b ≡ get_or vs 2 b
          → tree_at profile named n (view v)
          ≡ and_then (below (index 1) (tree_at profile named (n + 1) (view a))) (λ x. and_then (below (index 2) (tree_at profile named x.end (view b))) (λ y.
          made (given profile.bounds named) forms 3 (items_view (drop 3 vs)) (λ args. binary (make args) x.term y.term) y.end))
      from [] same long first second = absurd (omega arith)
      from (x ∷ []) same long first second = absurd (omega arith)
      from (x ∷ y ∷ []) same long first second = absurd (omega arith)
      from (x ∷ y ∷ z ∷ vs) same long first second =
          rw (first, second)
          (tree_at-applied profile named n few (two forms make) h v list is head names x (y ∷ z ∷ vs) same (omega (arith, long)))

  -- one on three operands, without arguments

  pub tree_at-three : (make : Arguments [] → Ternary) (a b c : Value)
      → operation_at profile (view h) ≡ Ok (three [] make)
      → length list.items ≡ 4 → a ≡ get_or list.items 1 a → b ≡ get_or list.items 2 b → c ≡ get_or list.items 3 c
      → tree_at profile named n (view v)
      ≡ and_then (below (index 1) (tree_at profile named (n + 1) (view a))) (λ x. and_then (below (index 2) (tree_at profile named x.end (view b))) (λ y.
      and_then (below (index 3) (tree_at profile named y.end (view c))) (λ z. checked (given profile.bounds named) (ternary (make tt) x.term y.term z.term) z.end)))
  tree_at-three make a b c names long first second third = from list.items refl long first second third
    where
      from : (vs : List Value) → list.items ≡ vs → length vs ≡ 4 → a ≡ get_or vs 1 a → b ≡ get_or vs 2 b → c ≡ get_or vs 3 c
          → tree_at profile named n (view v)
          ≡ and_then (below (index 1) (tree_at profile named (n + 1) (view a))) (λ x. and_then (below (index 2) (tree_at profile named x.end (view b))) (λ y.
          and_then (below (index 3) (tree_at profile named y.end (view c))) (λ z. checked (given profile.bounds named) (ternary (make tt) x.term y.term z.term) z.end)))
      from [] same long first second third = absurd (omega arith)
      from (x ∷ []) same long first second third = absurd (omega arith)
      from (x ∷ y ∷ []) same long first second third = absurd (omega arith)
      from (x ∷ y ∷ z ∷ []) same long first second third = absurd (omega arith)
      from (x ∷ y ∷ z ∷ w ∷ []) same long first second third =
          rw (first, second, third)
          (tree_at-applied profile named n few (three [] make) h v list is head names x (y ∷ z ∷ w ∷ []) same refl)
      from (x ∷ y ∷ z ∷ w ∷ u ∷ vs) same long first second third = absurd (omega arith)

-- what stands at a place of a list, whatever stands for it past the end
pub get_or-at : (vs : List Value) (i : ℕ) (d : Value) → i < length vs → get_or vs i d ≡ get_or vs i (get_or vs i d)
get_or-at vs i d below = get_or-within vs i d (get_or vs i d) below
