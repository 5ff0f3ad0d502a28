-- What is known of the bindings of a request, one by one and all together.
use Rattle.std.proofs.Common.{◌≡◌, ◌<◌, ◌≤◌, ℕ, ◌+◌, List, [], ◌∷◌, ◌++◌, length, take, get_or, ◌&&◌, true, Ok, refl, sym, subst, ap, arith, ◌∙◌}
use Rattle.std.proofs.lemmas.Bool.{and_parts, and_from}
use Rattle.std.proofs.lemmas.List.{length-append, map_push, take_more}
use Rattle.tensor_ops.specs.Bounds.{Bounds}
use Rattle.tensor_ops.specs.Contents.{Contents}
use Rattle.tensor_ops.specs.Result.{dims_of}
use Rattle.tensor_ops.specs.Term.{Term, input, unary, binary, ternary, has_inputs, nodes_of}
use Rattle.tensor_ops.specs.Value.{tensor_of}
use Rattle.expr_reader.specs.Bindings.{term_under, terms_under, have_inputs, dims_in_turn, dims_under, nodes_in}
use Rattle.expr_reader.specs.Bindings.{IsBound, AreBound}
use Rattle.expr_reader.specs.declared.binding.Binding.{Binding}
use Rattle.expr_reader.specs.declared.request.Request.{Request}

module _ (bounds : Bounds) where
  more : (b : Binding) (xs : List Contents)
      → length (xs ++ tensor_of (term_under b) xs ∷ []) ≡ length xs + 1
  more b xs = omega (arith, length-append xs (tensor_of (term_under b) xs ∷ []))

  -- one by one
  pub AreBound-all : (bs : List Binding) (xs : List Contents)
      → have_inputs (terms_under bs) (length xs) ≡ true
      → dims_in_turn bounds (terms_under bs) xs ≡ dims_under bs → AreBound bounds bs xs
  AreBound-all [] xs inputs dims = tt
  AreBound-all (b ∷ bs) xs inputs dims =
      let each = and_parts (has_inputs (term_under b) (length xs)) (have_inputs (terms_under bs) (length xs + 1)) inputs in
      let rest : have_inputs (terms_under bs) (length (xs ++ tensor_of (term_under b) xs ∷ [])) ≡ true =
      ap (have_inputs (terms_under bs)) (more b xs) ∙ each.1 in (
        record { inputs = each.0; dims = cc },
        AreBound-all bs (xs ++ tensor_of (term_under b) xs ∷ []) rest (cc),
      )

  -- all together
  pub have_inputs-all : (bs : List Binding) (xs : List Contents) → AreBound bounds bs xs
      → have_inputs (terms_under bs) (length xs) ≡ true
  have_inputs-all [] xs are = refl
  have_inputs-all (b ∷ bs) xs are =
      and_from (has_inputs (term_under b) (length xs)) (have_inputs (terms_under bs) (length xs + 1))
      are.0.inputs
      (ap (have_inputs (terms_under bs)) (sym (more b xs))
      ∙ have_inputs-all bs (xs ++ tensor_of (term_under b) xs ∷ []) are.1)

  pub dims_in_turn-all : (bs : List Binding) (xs : List Contents) → AreBound bounds bs xs
      → dims_in_turn bounds (terms_under bs) xs ≡ dims_under bs
  dims_in_turn-all [] xs are = refl
  dims_in_turn-all (b ∷ bs) xs are =
      rw (are.0.dims, dims_in_turn-all bs (xs ++ tensor_of (term_under b) xs ∷ []) are.1) refl

-- the bindings of a request
pub AreBound-request : (r : Request) → AreBound r.inputs.bounds r.bindings.items r.inputs.tensors
AreBound-request r =
    AreBound-all r.inputs.bounds r.bindings.items r.inputs.tensors r.have_inputs r.have_dims

-- a term has a node
pub some-nodes : (t : Term) → 1 ≤ nodes_of t
some-nodes (input n) = omega arith
some-nodes (unary o a) = omega arith
some-nodes (binary o a b) = omega arith
some-nodes (ternary o a b c) = omega arith

-- so there are no more bindings than nodes
pub length-nodes : (bs : List Binding) → length bs ≤ nodes_in (terms_under bs)
length-nodes [] = omega arith
length-nodes (b ∷ bs) = omega (arith, length-nodes bs, some-nodes (term_under b))

-- one binding more
pub terms_under-take : (bs : List Binding) (k : ℕ) (b : Binding) → k < length bs → b ≡ get_or bs k b
    → terms_under (take (k + 1) bs) ≡ terms_under (take k bs) ++ term_under b ∷ []
terms_under-take bs k b more is =
    ap terms_under (take_more bs k b more ∙ ap (λ x. take k bs ++ x ∷ []) (sym is))
    ∙ map_push term_under (take k bs) b
