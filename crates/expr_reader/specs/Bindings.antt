-- Bindings of the code: expressions whose tensors have names, with their dims.
use Rattle.std.specs.Prelude.{◌≡◌, ◌+◌, ◌&&◌, ℕ, List, [], ◌∷◌, ◌++◌, length, map, Ok, IsTrue}
use Rattle.std.specs.Prelude.{Bool, true}
use Rattle.tensor_ops.specs.Bounds.{Bounds}
use Rattle.tensor_ops.specs.Contents.{Contents}
use Rattle.tensor_ops.specs.Result.{dims_of}
use Rattle.tensor_ops.specs.Shaped.{Shaped}
use Rattle.tensor_ops.specs.Term.{Term, has_inputs, nodes_of}
use Rattle.tensor_ops.specs.Tree.{term_of}
use Rattle.tensor_ops.specs.Value.{tensor_of}
use Rattle.expr_reader.specs.declared.binding.Binding.{Binding}

abbrev pub term_under : Binding → Term
term_under b = term_of b.expr

abbrev pub terms_under : List Binding → List Term
terms_under bindings = map term_under bindings

-- how many nodes the terms have together
abbrev pub nodes_in : List Term → ℕ
nodes_in [] = 0
nodes_in (t ∷ ts) = nodes_of t + nodes_in ts

-- whether each term uses only the first `count` tensors and the tensors of the terms before it
abbrev pub have_inputs : List Term → ℕ → Bool
have_inputs [] count = true
have_inputs (t ∷ ts) count = has_inputs t count && have_inputs ts (count + 1)

-- the result dims of each term, over the tensors and the tensors of the terms before it
abbrev pub dims_in_turn : Bounds → List Term → List Contents → List Shaped
dims_in_turn bounds [] tensors = []
dims_in_turn bounds (t ∷ ts) tensors =
    dims_of bounds t tensors ∷ dims_in_turn bounds ts (tensors ++ tensor_of t tensors ∷ [])

abbrev pub dims_under : List Binding → List Shaped
dims_under bindings = map (λ b. Ok b.dims) bindings

-- a binding uses only the tensors before it, and its dims are its result dims over them, within
-- bounds
pub record IsBound (bounds : Bounds) (b : Binding) (tensors : List Contents) : Type 0 where
  pub inputs : IsTrue (has_inputs (term_under b) (length tensors))
  pub dims : dims_of bounds (term_under b) tensors ≡ Ok b.dims

-- each binding is bound over the tensors and the tensors of the bindings before it
abbrev pub AreBound : Bounds → List Binding → List Contents → Type 0
AreBound bounds [] tensors = Unit {0}
AreBound bounds (b ∷ bs) tensors =
    IsBound bounds b tensors × AreBound bounds bs (tensors ++ tensor_of (term_under b) tensors ∷ [])
