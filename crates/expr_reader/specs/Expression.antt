-- The expression of a request: bindings, each evaluated over the inputs and the bindings before it,
-- and then a tree over all of them.
use Rattle.std.specs.Prelude.{ℕ, ◌+◌, ◌&&◌, Bool, false, List, [], ◌∷◌, ◌++◌, codes, Option}
use Rattle.std.specs.Prelude.{is_none, ok_or, Result, Ok, Err, if◌then◌else◌}
use Rattle.std.specs.Option.{option_map_or}
use Rattle.std.specs.Str.{bytes_eq}
use Rattle.serde_json.specs.Data.{Data, array, Items, no_items, item}
use Rattle.serde_json.specs.Find.{as_str}
use Rattle.tensor_ops.specs.Term.{Term}
use Rattle.tensor_ops.specs.Value.{tensor_of}
use Rattle.expr_reader.specs.Fields.{only}
use Rattle.expr_reader.specs.Node.{Tree, within_limit, tree_at}
use Rattle.expr_reader.specs.Place.{Located, index, here, at, below}
use Rattle.expr_reader.specs.Profile.{Profile}
use Rattle.expr_reader.specs.Steps.{and_then, map_found}
use Rattle.expr_reader.specs.Tensors.{Named, number_of}
use Rattle.expr_reader.specs.declared.fault.Fault.TheVariants.{BadArity, BadArgument}

-- the terms of the bindings, in order, and the tree after them
pub record Expression : Type 0 where
  pub bindings : List Term
  pub tree : Tree

-- an expression without bindings
abbrev pub unbound : Tree → Expression
unbound tree = record { bindings = []; tree = tree }

-- an expression with one more binding, before its others
abbrev pub behind : Term → Expression → Expression
behind t found = record { bindings = t ∷ found.bindings; tree = found.tree }

-- whether the first element of a node makes it a `let`
abbrev pub is_let : Profile → Data → Bool
is_let profile head =
    profile.binds && option_map_or (λ name. bytes_eq name (codes "let")) (as_str head) false

-- a string that no input and no binding has as its name
abbrev pub new_name : Named → Data → Option (List ℕ)
new_name named d = only (λ name. is_none (number_of named.names name)) (as_str d)

-- the named tensors, and after them the tensor of a term with this name
abbrev pub with_binding : Named → List ℕ → Term → Named
with_binding named name t =
    record {
      names = named.names ++ name ∷ [];
      tensors = named.tensors ++ tensor_of t named.tensors ∷ [];
    }

module _ (profile : Profile) where
  abbrev mutual
    -- the expression that data is, with n nodes of the text before it
    pub expression_at : Named → ℕ → Data → Result Expression Located
    expression_at named n (array (item head rest)) =
        if is_let profile head then within_limit profile n (bound_at named n rest)
        else map_found unbound (tree_at profile named n (array (item head rest)))
    expression_at named n d = map_found unbound (tree_at profile named n d)

    -- the three elements of a `let`: a name, the tree of its tensor, and the expression in which
    -- the tensor has the name
    pub bound_at : Named → ℕ → Items → Result Expression Located
    bound_at named n (item d (item e (item f no_items))) =
        and_then (ok_or (new_name named d) (at (index 1) BadArgument)) (λ name.
        and_then (below (index 2) (tree_at profile named (n + 1) e)) (λ x.
        map_found (behind x.term)
        (below (index 3) (expression_at (with_binding named name x.term) x.end f))))
    bound_at named n items = Err (here BadArity)
