-- What the code has read of a tree, beside the walk of the definitions. Private clauses cite this.
use Rattle.std.specs.Prelude.{◌≡◌, ◌⊎◌, ◌++◌, ℕ, Bool, false, List, length, IsTrue, Result, Ok, Err, MatchResult}
use Rattle.serde_json.specs.Data.{Data, array, item}
use Rattle.tensor_ops.specs.Contents.{Given}
use Rattle.tensor_ops.specs.Result.{dims_of}
use Rattle.tensor_ops.specs.Sequence.{worked_out}
use Rattle.tensor_ops.specs.Term.{has_inputs}
use Rattle.tensor_ops.specs.Tree.{term_of}
use Rattle.expr_reader.specs.Bindings.{terms_under, AreBound}
use Rattle.expr_reader.specs.Expression.{Expression, is_let}
use Rattle.expr_reader.specs.Node.{Tree}
use Rattle.expr_reader.specs.Place.{Located, way_of}
use Rattle.expr_reader.specs.Profile.{Profile}
use Rattle.expr_reader.specs.Tensors.{Named}
use Rattle.expr_reader.specs.declared.fault.Fault.{Fault}
use Rattle.expr_reader.specs.declared.fault.Fault.TheVariants.{NoMemory}
use Rattle.expr_reader.specs.declared.named.NamedInputs.{NamedInputs}
use Rattle.expr_reader.specs.declared.node.Subtree.{Subtree}

-- a tree that the code read, as its term
abbrev pub tree_under : Subtree → Tree
tree_under tree = record { term = term_of tree.expr; end = tree.end }

-- a tree uses only the given tensors, and its dims are its result dims over them
pub record IsShaped (inputs : Given) (tree : Subtree) : Type 0 where
  pub inputs_known : IsTrue (has_inputs (term_of tree.expr) (length inputs.tensors))
  pub dims_known : dims_of inputs.bounds (term_of tree.expr) inputs.tensors ≡ Ok tree.dims

-- the code returns the tree that the walk says, or its fault and the way to it, or `NoMemory`
abbrev pub IsFound : Given → Result Tree Located → List ℕ → Result Subtree Fault → Type 0
IsFound inputs says indices found =
    MatchResult found (λ tree. (says ≡ Ok (tree_under tree)) × IsShaped inputs tree)
    (λ fault. (fault ≡ NoMemory)
    ⊎ (says ≡ Err (record { fault = fault; place = way_of indices })))

-- whether a node is a `let`
abbrev pub is_binding : Profile → Data → Bool
is_binding profile (array (item head rest)) = is_let profile head
is_binding profile d = false

-- an expression that the code read with `old` names: its bindings are appended to the old ones, and
-- its tree is over the tensors of all
pub record IsBehind (profile : Profile) (n : Named) (says : Result Expression Located)
    (old new : NamedInputs) (tree : Subtree) : Type 0 where
  pub found : Expression
  pub says_so : says ≡ Ok found
  pub tree_is : found.tree ≡ tree_under tree
  pub inputs : new.inputs ≡ old.inputs
  pub bindings : terms_under new.bindings.items ≡ terms_under old.bindings.items ++ found.bindings
  pub bound : AreBound profile.bounds new.bindings.items new.inputs.tensors
  pub shaped : IsShaped (record {
    tensors = worked_out (terms_under new.bindings.items) new.inputs.tensors;
    bounds = profile.bounds;
  }) tree

-- the code returns the expression that is said, or its fault and the way to it, or `NoMemory`
abbrev pub IsReadBehind : Profile → Named → Result Expression Located → NamedInputs → NamedInputs
    → List ℕ → Result Subtree Fault → Type 0
IsReadBehind profile n says old new indices r =
    MatchResult r (IsBehind profile n says old new)
    (λ fault. (fault ≡ NoMemory)
    ⊎ (says ≡ Err (record { fault = fault; place = way_of indices })))
