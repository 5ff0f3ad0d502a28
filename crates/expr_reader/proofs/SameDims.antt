-- What a frame asks for goes by its header and the number of its values, but for its inputs' values.
use Rattle.std.proofs.Common.{◌≡◌, ℕ, ℤ, zero, suc, ◌+◌, ◌-◌, min, List, [], ◌∷◌, length, Bool, true, false, ◌==◌}
use Rattle.std.proofs.Common.{Option, Some, None, ok_or, option_map, option_and_then, take, drop, Result, Ok, Err}
use Rattle.std.proofs.Common.{refl, ap, sym, ◌∙◌, ◌++◌, map, if◌then◌else◌, leb, arith}
use Rattle.std.proofs.lemmas.List.{length-take, length-drop, map-append}
use Rattle.std.specs.Prelude.{⊤, nat_lt, codes}
use Rattle.std.specs.Option.{option_map_or}
use Rattle.std.specs.Result.{result_map_both, result_unwrap_or}
use Rattle.serde_json.specs.Data.{Data, null, boolean, number, string, array, object, Items}
use Rattle.serde_json.specs.Data.{no_items, item, Members, no_members, member}
use Rattle.serde_json.specs.Events.{items_len}
use Rattle.serde_json.specs.Find.{as_object}
use Rattle.tensor_ops.specs.Bounds.{Bounds}
use Rattle.tensor_ops.specs.Contents.{Contents}
use Rattle.tensor_ops.specs.Index.{size_of}
use Rattle.tensor_ops.specs.Legal.{widest}
use Rattle.tensor_ops.specs.Result.{shape_of}
use Rattle.tensor_ops.specs.Term.{Term, unary, binary, ternary}
use Rattle.tensor_ops.specs.Value.{tensor_of}
use Rattle.tensor_terms.proofs.MoreTensors.{dims_of-same_dims}
use Rattle.expr_reader.specs.Arguments.{Form, Arguments, arguments_at}
use Rattle.expr_reader.specs.Faults.{text_fault}
use Rattle.expr_reader.specs.Fields.{Fields, fields_of, within}
use Rattle.expr_reader.specs.Frame.{dims_alone, dealt, none_left, framed_tensors, bad_framed, frame_inputs, values_limit, request_of_frame}
use Rattle.expr_reader.specs.Expression.{unbound, behind, is_let, new_name, expression_at, bound_at}
use Rattle.expr_reader.specs.Node.{within_limit, operation_at, checked, made, node_at, applied, tree_at}
use Rattle.expr_reader.specs.Place.{Step, field, index, Located, here, at, below, unlocated}
use Rattle.expr_reader.specs.Profile.{Profile}
use Rattle.expr_reader.specs.Profile.{frame_profile_of}
use Rattle.expr_reader.specs.Request.{Asked, profile_in}
use Rattle.expr_reader.specs.Request.{fields_asked, data_asked, data_of, text_asked}
use Rattle.expr_reader.specs.Steps.{and_then, map_found}
use Rattle.expr_reader.specs.Table.{Operation, one, two, three, arity_of}
use Rattle.expr_reader.specs.Tensors.{Named, dims_in, names_in, given}
use Rattle.expr_reader.specs.declared.fault.Fault.TheVariants.{BadField, BadVersion, BadWorkers, BadBlock, BadTensor, BadArity, BadArgument, TooLong}
use Rattle.expr_reader.specs.Alike.{AskAlike}
use Rattle.expr_reader.proofs.Chain.{tree_asked, inputs_asked, block_asked, workers_asked}

-- the dims of tensors
abbrev dims_of_each : List Contents → List (List ℕ)
dims_of_each ts = map (λ t. t.dims) ts

and_then-same : {A B : Type 0} (found other : Result A Located) (f g : A → Result B Located) → found ≡ other
    → ((x : A) → f x ≡ g x) → and_then found f ≡ and_then other g
and_then-same {A = A} {B = B} found other f g is same = ap (λ r. and_then r f) is ∙ by_case other
  where
    by_case : (r : Result A Located) → and_then r f ≡ and_then r g
    by_case (Ok x) = same x
    by_case (Err found) = refl

-- a tree over names of tensors of the same dims
module _ (profile : Profile) (names : List (List ℕ)) (ts us : List Contents)
    (same : dims_of_each ts ≡ dims_of_each us) where
  abbrev first : Named
  first = record { names = names; tensors = ts }

  abbrev second : Named
  second = record { names = names; tensors = us }

  made-same : (fs : List Form) (i : ℕ) (items : Items) (make : Arguments fs → Term) (end : ℕ)
      → made (given profile.bounds first) fs i items make end ≡ made (given profile.bounds second) fs i items make end
  made-same fs i items make end =
      and_then-same (arguments_at i fs items) (arguments_at i fs items)
      (λ a. checked (given profile.bounds first) (make a) end) (λ a. checked (given profile.bounds second) (make a) end) refl
      (λ a. ap (result_map_both (λ dims. record { term = make a; end = end }) (λ fault. here (text_fault fault)))
      (dims_of-same_dims profile.bounds (make a) ts us same))

  mutual
    node_at-same : (n : ℕ) (d : Data) → node_at profile first n d ≡ node_at profile second n d
    node_at-same n null = refl
    node_at-same n (boolean b) = refl
    node_at-same n (number x) = refl
    node_at-same n (object ms) = refl
    node_at-same n (string name) = refl
    node_at-same n (array no_items) = refl
    node_at-same n (array (item head rest)) =
        and_then-same (operation_at profile head) (operation_at profile head)
        (λ o. if items_len rest == arity_of o then applied profile first n o rest else Err (here BadArity))
        (λ o. if items_len rest == arity_of o then applied profile second n o rest else Err (here BadArity)) refl
        (λ o. ap (λ r. if items_len rest == arity_of o then r else Err (here BadArity)) (applied-same n o rest))

    applied-same : (n : ℕ) (o : Operation) (rest : Items) → applied profile first n o rest ≡ applied profile second n o rest
    applied-same n (one forms make) no_items = refl
    applied-same n (one forms make) (item a rest) =
        and_then-same (below (index 1) (tree_at profile first (n + 1) a)) (below (index 1) (tree_at profile second (n + 1) a)) _ _
        (ap (λ r. below (index 1) (within_limit profile (n + 1) r)) (node_at-same (n + 1) a))
        (λ x. made-same forms 2 rest (λ args. unary (make args) x.term) x.end)
    applied-same n (two forms make) no_items = refl
    applied-same n (two forms make) (item a no_items) = refl
    applied-same n (two forms make) (item a (item b rest)) =
        and_then-same (below (index 1) (tree_at profile first (n + 1) a)) (below (index 1) (tree_at profile second (n + 1) a)) _ _
        (ap (λ r. below (index 1) (within_limit profile (n + 1) r)) (node_at-same (n + 1) a))
        (λ x. and_then-same (below (index 2) (tree_at profile first x.end b)) (below (index 2) (tree_at profile second x.end b)) _ _
        (ap (λ r. below (index 2) (within_limit profile x.end r)) (node_at-same x.end b))
        (λ y. made-same forms 3 rest (λ args. binary (make args) x.term y.term) y.end))
    applied-same n (three forms make) no_items = refl
    applied-same n (three forms make) (item a no_items) = refl
    applied-same n (three forms make) (item a (item b no_items)) = refl
    applied-same n (three forms make) (item a (item b (item c rest))) =
        and_then-same (below (index 1) (tree_at profile first (n + 1) a)) (below (index 1) (tree_at profile second (n + 1) a)) _ _
        (ap (λ r. below (index 1) (within_limit profile (n + 1) r)) (node_at-same (n + 1) a))
        (λ x. and_then-same (below (index 2) (tree_at profile first x.end b)) (below (index 2) (tree_at profile second x.end b)) _ _
        (ap (λ r. below (index 2) (within_limit profile x.end r)) (node_at-same x.end b))
        (λ y. and_then-same (below (index 3) (tree_at profile first y.end c)) (below (index 3) (tree_at profile second y.end c)) _ _
        (ap (λ r. below (index 3) (within_limit profile y.end r)) (node_at-same y.end c))
        (λ z. made-same forms 4 rest (λ args. ternary (make args) x.term y.term z.term) z.end)))

  tree_at-same : (n : ℕ) (d : Data) → tree_at profile first n d ≡ tree_at profile second n d
  tree_at-same n d = ap (within_limit profile n) (node_at-same n d)

-- a tensor more of a term
dims-more : (t : Term) (ts us : List Contents) → dims_of_each ts ≡ dims_of_each us
    → dims_of_each (ts ++ tensor_of t ts ∷ []) ≡ dims_of_each (us ++ tensor_of t us ∷ [])
dims-more t ts us same =
    map-append (λ x. x.dims) ts (tensor_of t ts ∷ [])
    ∙ ap (λ ds. ds ++ shape_of t ts ∷ []) same
    ∙ ap (λ r. dims_of_each us ++ result_unwrap_or r [] ∷ []) (dims_of-same_dims widest t ts us same)
    ∙ sym (map-append (λ x. x.dims) us (tensor_of t us ∷ []))

-- an expression over names of tensors of the same dims
module _ (profile : Profile) where
  abbrev over : List (List ℕ) → List Contents → Named
  over names ts = record { names = names; tensors = ts }

  alone-same : (names : List (List ℕ)) (ts us : List Contents)
      → dims_of_each ts ≡ dims_of_each us → (n : ℕ) (d : Data)
      → map_found unbound (tree_at profile (over names ts) n d)
      ≡ map_found unbound (tree_at profile (over names us) n d)
  alone-same names ts us same n d = ap (map_found unbound) (tree_at-same profile names ts us same n d)

  mutual
    expression_at-same : (names : List (List ℕ)) (ts us : List Contents)
        → dims_of_each ts ≡ dims_of_each us → (n : ℕ) (d : Data)
        → expression_at profile (over names ts) n d ≡ expression_at profile (over names us) n d
    expression_at-same names ts us same n null = alone-same names ts us same n null
    expression_at-same names ts us same n (boolean b) = alone-same names ts us same n (boolean b)
    expression_at-same names ts us same n (number x) = alone-same names ts us same n (number x)
    expression_at-same names ts us same n (object ms) = alone-same names ts us same n (object ms)
    expression_at-same names ts us same n (string name) = alone-same names ts us same n (string name)
    expression_at-same names ts us same n (array no_items) = alone-same names ts us same n (array no_items)
    expression_at-same names ts us same n (array (item head rest)) =
        ap (λ r. if is_let profile head then within_limit profile n r
        else map_found unbound (tree_at profile (over names ts) n (array (item head rest))))
        (bound_at-same names ts us same n rest)
        ∙ ap (λ r. if is_let profile head then within_limit profile n (bound_at profile (over names us) n rest) else r)
        (alone-same names ts us same n (array (item head rest)))

    bound_at-same : (names : List (List ℕ)) (ts us : List Contents)
        → dims_of_each ts ≡ dims_of_each us → (n : ℕ) (rest : Items)
        → bound_at profile (over names ts) n rest ≡ bound_at profile (over names us) n rest
    bound_at-same names ts us same n no_items = refl
    bound_at-same names ts us same n (item d no_items) = refl
    bound_at-same names ts us same n (item d (item e no_items)) = refl
    bound_at-same names ts us same n (item d (item e (item f (item g rest)))) = refl
    bound_at-same names ts us same n (item d (item e (item f no_items))) =
        and_then-same (ok_or (new_name (over names ts) d) (at (index 1) BadArgument))
        (ok_or (new_name (over names us) d) (at (index 1) BadArgument)) _ _ refl
        (λ name. and_then-same (below (index 2) (tree_at profile (over names ts) (n + 1) e))
        (below (index 2) (tree_at profile (over names us) (n + 1) e)) _ _
        (ap (below (index 2)) (tree_at-same profile names ts us same (n + 1) e))
        (λ x. ap (λ r. map_found (behind x.term) (below (index 3) r))
        (expression_at-same (names ++ name ∷ []) (ts ++ tensor_of x.term ts ∷ [])
        (us ++ tensor_of x.term us ∷ []) (dims-more x.term ts us same) x.end f)))

-- tensors that are read of the same members, and as many values
abbrev AreAlike : Option (List Contents) → Option (List Contents) → Type 0
AreAlike None None = ⊤
AreAlike None (Some us) = ⊥
AreAlike (Some ts) None = ⊥
AreAlike (Some ts) (Some us) = dims_of_each ts ≡ dims_of_each us

AreAlike-cons : (t u : Contents) → t.dims ≡ u.dims → (ts us : Option (List Contents)) → AreAlike ts us
    → AreAlike (option_map (λ ts. t ∷ ts) ts) (option_map (λ us. u ∷ us) us)
AreAlike-cons t u head None None alike = tt
AreAlike-cons t u head None (Some us) alike = absurd alike
AreAlike-cons t u head (Some ts) None alike = absurd alike
AreAlike-cons t u head (Some ts) (Some us) alike = (cc)

module _ (bounds : Bounds) where
  AreAlike-none_left : (vs ws : List ℤ) → length vs ≡ length ws → AreAlike (none_left vs) (none_left ws)
  AreAlike-none_left [] [] long = refl
  AreAlike-none_left [] (w ∷ ws) long = absurd (omega arith)
  AreAlike-none_left (v ∷ vs) [] long = absurd (omega arith)
  AreAlike-none_left (v ∷ vs) (w ∷ ws) long = tt

  AreAlike-framed_tensors : (ms : Members) (vs ws : List ℤ) → length vs ≡ length ws
      → AreAlike (framed_tensors bounds vs ms) (framed_tensors bounds ws ms)
  AreAlike-framed_tensors no_members vs ws long = AreAlike-none_left vs ws long
  AreAlike-framed_tensors (member name d ms) vs ws long = by_dims (AreAlike-framed_tensors ms) (dims_alone d)
    where
      AllAlike : Type 0
      AllAlike = (xs ys : List ℤ) → length xs ≡ length ys → AreAlike (framed_tensors bounds xs ms) (framed_tensors bounds ys ms)

      behind : List ℤ → Contents → Option (List Contents)
      behind values t = option_map (λ ts. t ∷ ts) (framed_tensors bounds (drop (length t.values) values) ms)

      by_room : AllAlike → (sizes : List ℕ) (has_room : Bool)
          → AreAlike (option_and_then (behind vs) (if has_room then Some (record { dims = sizes; values = take (size_of sizes) vs }) else None))
          (option_and_then (behind ws) (if has_room then Some (record { dims = sizes; values = take (size_of sizes) ws }) else None))
      by_room alike sizes false = tt
      by_room alike sizes true =
          let first : ℕ = length (take (size_of sizes) vs) in
          let second : ℕ = length (take (size_of sizes) ws) in
          let taken : first ≡ second =
          length-take (size_of sizes) vs ∙ ap (min (size_of sizes)) long ∙ sym (length-take (size_of sizes) ws) in
          let left : length (drop first vs) ≡ length (drop second ws) =
          length-drop first vs ∙ ap (λ n. n - first) long ∙ ap (λ k. length ws - k) taken ∙ sym (length-drop second ws) in
          AreAlike-cons (record { dims = sizes; values = take (size_of sizes) vs }) (record { dims = sizes; values = take (size_of sizes) ws }) refl
          (framed_tensors bounds (drop first vs) ms) (framed_tensors bounds (drop second ws) ms)
          (alike (drop first vs) (drop second ws) left)

      by_sizes : AllAlike → (sizes : Option (List ℕ))
          → AreAlike (option_and_then (behind vs) (option_and_then (dealt vs) sizes)) (option_and_then (behind ws) (option_and_then (dealt ws) sizes))
      by_sizes alike None = tt
      by_sizes alike (Some sizes) = rw long (by_room alike sizes (leb (size_of sizes) (length ws)))

      by_dims : AllAlike → (dims : Option Data)
          → AreAlike (option_and_then (behind vs) (option_and_then (λ dims. option_and_then (dealt vs) (dims_in bounds dims)) dims))
          (option_and_then (behind ws) (option_and_then (λ dims. option_and_then (dealt ws) (dims_in bounds dims)) dims))
      by_dims alike None = tt
      by_dims alike (Some dims) = by_sizes alike (dims_in bounds dims)

-- a fault, or what is asked alike where something was found
AskAlike-and_then : {A : Type 0} (found : Result A Located) (f g : A → Result Asked Located)
    → ((x : A) → AskAlike (unlocated (f x)) (unlocated (g x))) → AskAlike (unlocated (and_then found f)) (unlocated (and_then found g))
AskAlike-and_then (Ok x) f g alike = alike x
AskAlike-and_then (Err found) f g alike = refl

module _ (f : Fields) (profile : Profile) (workers block : ℕ) (names : List (List ℕ)) where
  AskAlike-tree_asked : (ts us : List Contents) → dims_of_each ts ≡ dims_of_each us
      → AskAlike (unlocated (tree_asked f profile workers block (record { names = names; tensors = ts })))
      (unlocated (tree_asked f profile workers block (record { names = names; tensors = us })))
  AskAlike-tree_asked ts us same =
      rw (expression_at-same profile names ts us same 0 f.expr)
      (AskAlike-and_then (below (field (codes "expr")) (expression_at profile (record { names = names; tensors = us }) 0 f.expr)) _ _
      (λ found. record { workers = refl; block = refl; bounds = refl; bindings = refl; term = refl; inputs = same }))

  -- where there are none, the places may be others
  AskAlike-named : (p q : List Step) (ts us : Option (List Contents)) → AreAlike ts us
      → AskAlike (unlocated (and_then (below (field (codes "inputs"))
      (ok_or (option_map (λ ts. record { names = names; tensors = ts }) ts) (record { fault = BadTensor; place = p })))
      (tree_asked f profile workers block)))
      (unlocated (and_then (below (field (codes "inputs"))
      (ok_or (option_map (λ us. record { names = names; tensors = us }) us) (record { fault = BadTensor; place = q })))
      (tree_asked f profile workers block)))
  AskAlike-named p q None None alike = refl
  AskAlike-named p q None (Some us) alike = absurd alike
  AskAlike-named p q (Some ts) None alike = absurd alike
  AskAlike-named p q (Some ts) (Some us) alike = AskAlike-tree_asked ts us alike

module _ (vs ws : List ℤ) (long : length vs ≡ length ws) where
  AskAlike-inputs : (f : Fields) (profile : Profile) (workers block : ℕ)
      → AskAlike (unlocated (inputs_asked (frame_inputs vs) f profile workers block))
      (unlocated (inputs_asked (frame_inputs ws) f profile workers block))
  AskAlike-inputs f profile workers block =
      by_members (as_object f.inputs) (option_map_or (bad_framed profile.bounds vs) (as_object f.inputs) [])
      (option_map_or (bad_framed profile.bounds ws) (as_object f.inputs) [])
    where
      read : List ℤ → List Step → Option Members → Result Named Located
      read values place ms =
          ok_or (option_and_then (λ ms. option_map (λ ts. record { names = names_in ms; tensors = ts }) (framed_tensors profile.bounds values ms)) ms)
          (record { fault = BadTensor; place = place })

      by_members : (ms : Option Members) (p q : List Step)
          → AskAlike (unlocated (and_then (below (field (codes "inputs")) (read vs p ms)) (tree_asked f profile workers block)))
          (unlocated (and_then (below (field (codes "inputs")) (read ws q ms)) (tree_asked f profile workers block)))
      by_members None p q = refl
      by_members (Some ms) p q =
          AskAlike-named f profile workers block (names_in ms) p q (framed_tensors profile.bounds vs ms) (framed_tensors profile.bounds ws ms)
          (AreAlike-framed_tensors profile.bounds ms vs ws long)

  AskAlike-fields : (f : Fields) → AskAlike (unlocated (fields_asked frame_profile_of (frame_inputs vs) f)) (unlocated (fields_asked frame_profile_of (frame_inputs ws) f))
  AskAlike-fields f =
      AskAlike-and_then (ok_or (profile_in frame_profile_of f) (at (field (codes "version")) BadVersion))
      (workers_asked (frame_inputs vs) f) (workers_asked (frame_inputs ws) f)
      (λ p. AskAlike-and_then (ok_or (within 1 p.workers f.workers) (at (field (codes "workers")) BadWorkers))
      (block_asked (frame_inputs vs) f p) (block_asked (frame_inputs ws) f p)
      (λ workers. AskAlike-and_then (ok_or (within 1 p.block f.block) (at (field (codes "block")) BadBlock))
      (inputs_asked (frame_inputs vs) f p workers) (inputs_asked (frame_inputs ws) f p workers)
      (λ block. AskAlike-inputs f p workers block)))

  AskAlike-text : (header : List ℕ) → AskAlike (unlocated (text_asked frame_profile_of (frame_inputs vs) header)) (unlocated (text_asked frame_profile_of (frame_inputs ws) header))
  AskAlike-text header =
      AskAlike-and_then (data_of header) (data_asked frame_profile_of (frame_inputs vs)) (data_asked frame_profile_of (frame_inputs ws))
      (λ d. AskAlike-and_then (ok_or (fields_of d) (here BadField)) (fields_asked frame_profile_of (frame_inputs vs)) (fields_asked frame_profile_of (frame_inputs ws)) AskAlike-fields)

  pub AskAlike-frame : (header : List ℕ) → AskAlike (request_of_frame header vs) (request_of_frame header ws)
  AskAlike-frame header = rw long (by_length (nat_lt (values_limit header) (length ws)))
    where
      by_length : (is_long : Bool)
          → AskAlike (unlocated (if is_long then Err (here TooLong) else text_asked frame_profile_of (frame_inputs vs) header))
          (unlocated (if is_long then Err (here TooLong) else text_asked frame_profile_of (frame_inputs ws) header))
      by_length true = refl
      by_length false = AskAlike-text header
