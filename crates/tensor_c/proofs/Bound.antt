-- What is known of the bindings of a request, each over all before it and over all.
use Rattle.std.proofs.Common.{◌≡◌, ◌<◌, ◌≤◌, ◌+◌, ℕ, zero, suc, true, List, [], ◌∷◌, ◌++◌, length, take, get_or, IsOk}
use Rattle.std.proofs.Common.{ap, sym, ◌∙◌, subst, arith, is_ok, append_assoc, length-append}
use Rattle.std.proofs.lemmas.List.{append-nil}
use Rattle.tensor_ops.specs.Bounds.{Bounds}
use Rattle.tensor_ops.proofs.Widening.{dims_of-wider}
use Rattle.tensor_terms.proofs.MoreTensors.{has_inputs-more, dims_of-more}
use Rattle.expr_reader.specs.Bindings.{AreBound, term_under, terms_under, nodes_in}
use Rattle.expr_reader.specs.Contents.{Contents}
use Rattle.expr_reader.specs.Legal.{widest, IsPossible}
use Rattle.expr_reader.specs.Result.{dims_of}
use Rattle.expr_reader.specs.Sequence.{worked_out}
use Rattle.expr_reader.specs.Term.{Term, has_inputs, nodes_of}
use Rattle.expr_reader.specs.Value.{tensor_of}
use Rattle.expr_reader.specs.declared.binding.Binding.{Binding}
use Rattle.prepared_expressions.specs.Ready.{HaveDims}
use Rattle.tensor_c.specs.Shared.{size_in, shared, shared_whole}

-- the nodes of a binding and of those before it are among all nodes
pub nodes-binding : (bs : List Binding) (k : ℕ) (d : Binding) → k < length bs
    → nodes_in (terms_under (take k bs)) + nodes_of (term_under (get_or bs k d)) ≤ nodes_in (terms_under bs)
nodes-binding [] k d below = absurd (omega arith)
nodes-binding (b ∷ bs) zero d below = omega arith
nodes-binding (b ∷ bs) (suc k) d below = omega (arith, nodes-binding bs k d (omega arith))

-- one term more
pub nodes_in-push : (ts : List Term) (t : Term) → nodes_in (ts ++ t ∷ []) ≡ nodes_in ts + nodes_of t
nodes_in-push [] t = omega arith
nodes_in-push (u ∷ ts) t = omega (arith, nodes_in-push ts t)

pub shared_whole-push : (tensors : List Contents) (ts : List Term) (t : Term)
    → shared_whole tensors (ts ++ t ∷ []) ≡ shared_whole tensors ts + (size_in tensors t + shared tensors t)
shared_whole-push tensors [] t = omega arith
shared_whole-push tensors (u ∷ ts) t = omega (arith, shared_whole-push tensors ts t)

-- tensors of terms, behind those that there were
abbrev tensors_behind : List Term → List Contents → List Contents
tensors_behind [] tensors = []
tensors_behind (t ∷ ts) tensors = tensor_of t tensors ∷ tensors_behind ts (tensors ++ tensor_of t tensors ∷ [])

worked_out-behind : (ts : List Term) (tensors : List Contents) → worked_out ts tensors ≡ tensors ++ tensors_behind ts tensors
worked_out-behind [] tensors = sym (append-nil tensors)
worked_out-behind (t ∷ ts) tensors =
    worked_out-behind ts (tensors ++ tensor_of t tensors ∷ [])
    ∙ append_assoc tensors (tensor_of t tensors ∷ []) (tensors_behind ts (tensors ++ tensor_of t tensors ∷ []))

module _ (bounds : Bounds) where
  -- they have dims, and so has the term behind them
  pub HaveDims-bound : (bs : List Binding) (t : Term) (xs : List Contents) → AreBound bounds bs xs
      → IsOk (dims_of bounds t (worked_out (terms_under bs) xs)) → HaveDims bounds (terms_under bs ++ t ∷ []) xs
  HaveDims-bound [] t xs are is = (is, tt)
  HaveDims-bound (b ∷ bs) t xs are is =
      (ap is_ok are.0.dims, HaveDims-bound bs t (xs ++ tensor_of (term_under b) xs ∷ []) are.1 is)

  -- each has its inputs among the tensors of all
  pub has_inputs-binding : (bs : List Binding) (xs : List Contents) (k : ℕ) (d : Binding) → AreBound bounds bs xs
      → k < length bs → has_inputs (term_under (get_or bs k d)) (length xs + length bs) ≡ true
  has_inputs-binding [] xs k d are below = absurd (omega arith)
  has_inputs-binding (b ∷ bs) xs zero d are below =
      has_inputs-more (term_under b) (length xs) (length (b ∷ bs)) are.0.inputs
  has_inputs-binding (b ∷ bs) xs (suc k) d are below =
      let made : Contents = tensor_of (term_under b) xs in
      let count : length (xs ++ made ∷ []) + length bs ≡ length xs + length (b ∷ bs) = omega (arith, length-append xs (made ∷ [])) in
      subst (λ n. has_inputs (term_under (get_or bs k d)) n ≡ true) count
      (has_inputs-binding bs (xs ++ made ∷ []) k d are.1 (omega arith))

  -- and dims over them
  pub dims-over_all : IsPossible bounds → (bs : List Binding) (xs : List Contents) (k : ℕ) (d : Binding) → AreBound bounds bs xs
      → k < length bs → IsOk (dims_of widest (term_under (get_or bs k d)) (worked_out (terms_under bs) xs))
  dims-over_all possible [] xs k d are below = absurd (omega arith)
  dims-over_all possible (b ∷ bs) xs zero d are below =
      let t : Term = term_under b in
      let more : List Contents = tensors_behind (terms_under (b ∷ bs)) xs in
      let wider : dims_of widest t xs ≡ dims_of bounds t xs = (dims_of-wider bounds possible t xs).same (ap is_ok are.0.dims) in
      ap is_ok (ap (dims_of widest t) (worked_out-behind (terms_under (b ∷ bs)) xs)
      ∙ dims_of-more widest t xs more are.0.inputs ∙ wider ∙ are.0.dims)
  dims-over_all possible (b ∷ bs) xs (suc k) d are below =
      dims-over_all possible bs (xs ++ tensor_of (term_under b) xs ∷ []) k d are.1 (omega arith)
