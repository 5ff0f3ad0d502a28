-- A tree that was read has no more nodes than were counted, and these are no more than the limit.
use Rattle.std.proofs.Common.{◌≡◌, ℕ, ◌+◌, ◌<◌, ◌≤◌, List, Bool, true, false, ◌==◌}
use Rattle.std.proofs.Common.{Option, Some, None, ok_or, option_map, Result, Ok, Err, subst, arith}
use Rattle.std.proofs.Common.{if◌then◌else◌}
use Rattle.std.proofs.Math.Decide.{dec_le}
use Rattle.std.proofs.Math.Nat.{lt_of_not-le}
use Rattle.std.proofs.lemmas.Bool.{le-leb, lt-leb}
use Rattle.std.specs.Result.{result_map_both}
use Rattle.serde_json.specs.Data.{Data, null, boolean, number, string, array, object, Items}
use Rattle.serde_json.specs.Data.{no_items, item}
use Rattle.serde_json.specs.Events.{items_len}
use Rattle.tensor_ops.specs.Contents.{Given}
use Rattle.tensor_ops.specs.Result.{dims_of}
use Rattle.tensor_ops.specs.Shaped.{Shaped}
use Rattle.tensor_ops.specs.Term.{Term, input, unary, binary, ternary, nodes_of}
use Rattle.expr_reader.specs.Arguments.{Form, Arguments, arguments_at}
use Rattle.expr_reader.specs.Faults.{text_fault}
use Rattle.expr_reader.specs.Bindings.{nodes_in}
use Rattle.expr_reader.specs.Expression.{Expression, unbound, behind, is_let, new_name}
use Rattle.expr_reader.specs.Expression.{with_binding, expression_at, bound_at}
use Rattle.expr_reader.specs.Node.{Tree, within_limit, operation_at, input_at, checked, made}
use Rattle.expr_reader.specs.Node.{node_at, applied, tree_at}
use Rattle.expr_reader.specs.Place.{Located, index, here, at, below}
use Rattle.expr_reader.specs.Profile.{Profile}
use Rattle.expr_reader.specs.Steps.{and_then, map_found}
use Rattle.expr_reader.specs.Table.{Operation, one, two, three, arity_of}
use Rattle.expr_reader.specs.Tensors.{Named, given, number_of}
use Rattle.expr_reader.specs.declared.fault.Fault.TheVariants.{UnknownInput, BadArity}
use Rattle.expr_reader.specs.declared.fault.Fault.TheVariants.{BadArgument, TooLarge}
use Rattle.std.specs.Prelude.{nat_le}

-- the nodes of what was found behind n others were counted, and are no more than there may be
abbrev AreCounted : ℕ → ℕ → Result Tree Located → Type 0
AreCounted most n (Ok tree) = (n + nodes_of tree.term ≤ tree.end) × (tree.end ≤ most)
AreCounted most n (Err fault) = Unit {0}

AreCounted-within_limit : (profile : Profile) (n : ℕ) (found : Result Tree Located)
    → (n < profile.nodes → AreCounted profile.nodes n found)
    → AreCounted profile.nodes n (within_limit profile n found)
AreCounted-within_limit profile n found counted = elim (dec_le profile.nodes n) [
  | yes long ↦ rw (le-leb profile.nodes n long) tt
  | no short ↦ rw (lt-leb profile.nodes n (lt_of_not-le short)) (counted (lt_of_not-le short))
]

AreCounted-input_at : (named : Named) (name : List ℕ) (most n : ℕ) → n < most
    → AreCounted most n (input_at named name (n + 1))
AreCounted-input_at named name most n below = from (number_of named.names name)
  where
    from : (k : Option ℕ) → AreCounted most n
        (ok_or (option_map (λ k. record { term = input k; end = n + 1 }) k) (here UnknownInput))
    from None = tt
    from (Some k) = (omega arith, omega arith)

AreCounted-checked : (inputs : Given) (t : Term) (most n end : ℕ) → n + nodes_of t ≤ end
    → end ≤ most → AreCounted most n (checked inputs t end)
AreCounted-checked inputs t most n end counted few = from (dims_of inputs.bounds t inputs.tensors)
  where
    from : (dims : Shaped)
        → AreCounted most n (result_map_both (λ dims. record { term = t; end = end }) (λ fault. here (text_fault fault))
        dims)
    from (Ok dims) = (counted, few)
    from (Err fault) = tt

AreCounted-made : (inputs : Given) (fs : List Form) (first : ℕ) (items : Items)
    (make : Arguments fs → Term) (most n end : ℕ)
    → ((a : Arguments fs) → n + nodes_of (make a) ≤ end) → end ≤ most
    → AreCounted most n (made inputs fs first items make end)
AreCounted-made inputs fs first items make most n end counted few = from (arguments_at first fs items)
  where
    from : (a : Result (Arguments fs) Located)
        → AreCounted most n (and_then a (λ a. checked inputs (make a) end))
    from (Err l) = tt
    from (Ok a) = AreCounted-checked inputs (make a) most n end (counted a) few

AreCounted-and_then : (most m n i : ℕ) (found : Result Tree Located)
    (next : Tree → Result Tree Located) → AreCounted most m found
    → ((x : Tree) → m + nodes_of x.term ≤ x.end → x.end ≤ most → AreCounted most n (next x))
    → AreCounted most n (and_then (below (index i) found) next)
AreCounted-and_then most m n i (Ok x) next counted follows = follows x counted.0 counted.1
AreCounted-and_then most m n i (Err fault) next counted follows = tt

AreCounted-if : (most n : ℕ) (b : Bool) (found : Result Tree Located) → AreCounted most n found
    → AreCounted most n (if b then found else Err (here BadArity))
AreCounted-if most n true found counted = counted
AreCounted-if most n false found counted = tt

AreCounted-named : (most n : ℕ) (next : Operation → Result Tree Located)
    → ((o : Operation) → AreCounted most n (next o)) → (o : Result Operation Located)
    → AreCounted most n (and_then o next)
AreCounted-named most n next counted (Err l) = tt
AreCounted-named most n next counted (Ok o) = counted o

module _ (profile : Profile) (named : Named) where
  mutual
    AreCounted-node_at : (n : ℕ) (d : Data) → n < profile.nodes
        → AreCounted profile.nodes n (node_at profile named n d)
    AreCounted-node_at n null below = tt
    AreCounted-node_at n (boolean b) below = tt
    AreCounted-node_at n (number x) below = tt
    AreCounted-node_at n (object ms) below = tt
    AreCounted-node_at n (string name) below =
        AreCounted-input_at named name profile.nodes n below
    AreCounted-node_at n (array no_items) below = tt
    AreCounted-node_at n (array (item head rest)) below =
        AreCounted-named profile.nodes n
        (λ o. if items_len rest == arity_of o then applied profile named n o rest else Err (here BadArity))
        (λ o. AreCounted-if profile.nodes n (items_len rest == arity_of o) (applied profile named n o rest)
        (AreCounted-applied n o rest)) (operation_at profile head)

    AreCounted-applied : (n : ℕ) (o : Operation) (rest : Items)
        → AreCounted profile.nodes n (applied profile named n o rest)
    AreCounted-applied n (one forms make) no_items = tt
    AreCounted-applied n (one forms make) (item a rest) =
        AreCounted-and_then profile.nodes (n + 1) n 1 (tree_at profile named (n + 1) a) _
        (AreCounted-within_limit profile (n + 1) (node_at profile named (n + 1) a)
        (AreCounted-node_at (n + 1) a))
        (λ x counted few. AreCounted-made (given profile.bounds named) forms 2 rest
        (λ args. unary (make args) x.term) profile.nodes n x.end (λ args. omega arith) few)
    AreCounted-applied n (two forms make) no_items = tt
    AreCounted-applied n (two forms make) (item a no_items) = tt
    AreCounted-applied n (two forms make) (item a (item b rest)) =
        AreCounted-and_then profile.nodes (n + 1) n 1 (tree_at profile named (n + 1) a) _
        (AreCounted-within_limit profile (n + 1) (node_at profile named (n + 1) a)
        (AreCounted-node_at (n + 1) a))
        (λ x first few. AreCounted-and_then profile.nodes x.end n 2 (tree_at profile named x.end b) _
        (AreCounted-within_limit profile x.end (node_at profile named x.end b)
        (AreCounted-node_at x.end b))
        (λ y second enough. AreCounted-made (given profile.bounds named) forms 3 rest
        (λ args. binary (make args) x.term y.term) profile.nodes n y.end (λ args. omega arith) enough))
    AreCounted-applied n (three forms make) no_items = tt
    AreCounted-applied n (three forms make) (item a no_items) = tt
    AreCounted-applied n (three forms make) (item a (item b no_items)) = tt
    AreCounted-applied n (three forms make) (item a (item b (item c rest))) =
        AreCounted-and_then profile.nodes (n + 1) n 1 (tree_at profile named (n + 1) a) _
        (AreCounted-within_limit profile (n + 1) (node_at profile named (n + 1) a)
        (AreCounted-node_at (n + 1) a))
        (λ x first few. AreCounted-and_then profile.nodes x.end n 2 (tree_at profile named x.end b) _
        (AreCounted-within_limit profile x.end (node_at profile named x.end b)
        (AreCounted-node_at x.end b))
        (λ y second enough. AreCounted-and_then profile.nodes y.end n 3 (tree_at profile named y.end c) _
        (AreCounted-within_limit profile y.end (node_at profile named y.end c)
        (AreCounted-node_at y.end c))
        (λ z third all. AreCounted-made (given profile.bounds named) forms 4 rest
        (λ args. ternary (make args) x.term y.term z.term) profile.nodes n z.end (λ args. omega arith) all)))

  AreCounted-tree_at : (n : ℕ) (d : Data)
      → AreCounted profile.nodes n (tree_at profile named n d)
  AreCounted-tree_at n d =
      AreCounted-within_limit profile n (node_at profile named n d) (AreCounted-node_at n d)

-- the nodes of an expression behind n others, those of its bindings too
abbrev AllAreCounted : ℕ → ℕ → Result Expression Located → Type 0
AllAreCounted most n (Ok found) =
    n + (nodes_in found.bindings + nodes_of found.tree.term) ≤ most
AllAreCounted most n (Err fault) = Unit {0}

AllAreCounted-alone : (most n : ℕ) (found : Result Tree Located) → AreCounted most n found
    → AllAreCounted most n (map_found unbound found)
AllAreCounted-alone most n (Ok tree) counted = omega (arith, counted.0, counted.1)
AllAreCounted-alone most n (Err fault) counted = tt

AllAreCounted-behind : (most m n i : ℕ) (t : Term) (found : Result Expression Located)
    → n + nodes_of t ≤ m → AllAreCounted most m found
    → AllAreCounted most n (map_found (behind t) (below (index i) found))
AllAreCounted-behind most m n i t (Ok found) before counted = omega (arith, counted, before)
AllAreCounted-behind most m n i t (Err fault) before counted = tt

module _ (profile : Profile) where
  alone : (named : Named) (n : ℕ) (d : Data)
      → AllAreCounted profile.nodes n (map_found unbound (tree_at profile named n d))
  alone named n d =
      AllAreCounted-alone profile.nodes n (tree_at profile named n d)
      (AreCounted-tree_at profile named n d)

  within : (n : ℕ) (many : Bool) (found : Result Expression Located)
      → AllAreCounted profile.nodes n found
      → AllAreCounted profile.nodes n (if many then Err (here TooLarge) else found)
  within n true found counted = tt
  within n false found counted = counted

  by_head : (named : Named) (n : ℕ) (head : Data) (rest : Items) (binds : Bool)
      → AllAreCounted profile.nodes n (bound_at profile named n rest)
      → AllAreCounted profile.nodes n
      (if binds then within_limit profile n (bound_at profile named n rest)
      else map_found unbound (tree_at profile named n (array (item head rest))))
  by_head named n head rest true counted =
      within n (nat_le profile.nodes n) (bound_at profile named n rest) counted
  by_head named n head rest false counted = alone named n (array (item head rest))

  AllAreCounted-let : (named : Named) (n : ℕ) (d e f : Data)
      → ((name : List ℕ) (x : Tree) → AllAreCounted profile.nodes x.end
      (expression_at profile (with_binding named name x.term) x.end f))
      → AllAreCounted profile.nodes n (bound_at profile named n (item d (item e (item f no_items))))
  AllAreCounted-let named n d e f counted = by_name (new_name named d)
    where
      by_tree : (name : List ℕ) (x : Result Tree Located) → AreCounted profile.nodes (n + 1) x
          → AllAreCounted profile.nodes n
          (and_then (below (index 2) x) (λ x. map_found (behind x.term)
          (below (index 3) (expression_at profile (with_binding named name x.term) x.end f))))
      by_tree name (Err l) first = tt
      by_tree name (Ok x) first =
          AllAreCounted-behind profile.nodes x.end n 3 x.term
          (expression_at profile (with_binding named name x.term) x.end f)
          (omega (arith, first.0)) (counted name x)

      by_name : (name : Option (List ℕ)) → AllAreCounted profile.nodes n
          (and_then (ok_or name (at (index 1) BadArgument)) (λ name.
          and_then (below (index 2) (tree_at profile named (n + 1) e)) (λ x.
          map_found (behind x.term)
          (below (index 3) (expression_at profile (with_binding named name x.term) x.end f)))))
      by_name None = tt
      by_name (Some name) =
          by_tree name (tree_at profile named (n + 1) e) (AreCounted-tree_at profile named (n + 1) e)

  mutual
    AllAreCounted-expression_at : (named : Named) (n : ℕ) (d : Data)
        → AllAreCounted profile.nodes n (expression_at profile named n d)
    AllAreCounted-expression_at named n null = alone named n null
    AllAreCounted-expression_at named n (boolean b) = alone named n (boolean b)
    AllAreCounted-expression_at named n (number x) = alone named n (number x)
    AllAreCounted-expression_at named n (object ms) = alone named n (object ms)
    AllAreCounted-expression_at named n (string name) = alone named n (string name)
    AllAreCounted-expression_at named n (array no_items) = alone named n (array no_items)
    AllAreCounted-expression_at named n (array (item head rest)) =
        by_head named n head rest (is_let profile head) (AllAreCounted-bound_at named n rest)

    AllAreCounted-bound_at : (named : Named) (n : ℕ) (rest : Items)
        → AllAreCounted profile.nodes n (bound_at profile named n rest)
    AllAreCounted-bound_at named n no_items = tt
    AllAreCounted-bound_at named n (item d no_items) = tt
    AllAreCounted-bound_at named n (item d (item e no_items)) = tt
    AllAreCounted-bound_at named n (item d (item e (item f (item g rest)))) = tt
    AllAreCounted-bound_at named n (item d (item e (item f no_items))) =
        AllAreCounted-let named n d e f
        (λ name x. AllAreCounted-expression_at (with_binding named name x.term) x.end f)

  pub nodes_of-expression_at : (named : Named) (n : ℕ) (d : Data) (found : Expression)
      → expression_at profile named n d ≡ Ok found
      → n + (nodes_in found.bindings + nodes_of found.tree.term) ≤ profile.nodes
  nodes_of-expression_at named n d found is =
      subst (AllAreCounted profile.nodes n) is (AllAreCounted-expression_at named n d)
