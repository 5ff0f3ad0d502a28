-- Steps go by dims alone.
use Rattle.std.proofs.Common.{◌≡◌, ℕ, zero, suc, ◌-◌, ◌<◌, ◌≤◌, List, [], ◌∷◌, ◌++◌, length, map, get_or}
use Rattle.std.proofs.Common.{refl, ap, sym, ◌∙◌, arith}
use Rattle.std.proofs.lemmas.List.{length-append, length-map, get_or-map, get_or_append_left, get_or-append_right}
use Rattle.std.specs.Result.{result_unwrap_or}
use Rattle.expr_reader.specs.Contents.{Contents, input_of}
use Rattle.expr_reader.specs.Legal.{widest}
use Rattle.expr_reader.specs.Result.{shape_of}
use Rattle.expr_reader.specs.Term.{Term, input, unary, binary, ternary}
use Rattle.expr_reader.specs.declared.binding.Binding.{Binding}
use Rattle.tensor_terms.proofs.MoreTensors.{dims_of-same, same_dims-all}
use Rattle.tensor_runner.specs.private.Known.{dims_of_all, without_values}
use Rattle.tensor_runner.specs.Work.{combined, steps_over}

module _ (ts us : List Contents) (same : dims_of_all ts ≡ dims_of_all us) where
  shape_of-same : (t : Term) → shape_of t ts ≡ shape_of t us
  shape_of-same t =
      ap (λ r. result_unwrap_or r []) (dims_of-same ts us (same_dims-all ts us same) widest t)

  combined-same : (t : Term) → combined ts t ≡ combined us t
  combined-same (input n) = refl
  combined-same (unary o a) = cc (combined-same a, shape_of-same (unary o a), shape_of-same a)
  combined-same (binary o a b) =
      cc (
        combined-same a,
        combined-same b,
        shape_of-same (binary o a b),
        shape_of-same a,
        shape_of-same b,
      )
  combined-same (ternary o a b c) = cc (combined-same a, combined-same b, combined-same c)

  pub steps_over-same : (t : Term) → steps_over ts t ≡ steps_over us t
  steps_over-same t = cc (combined-same t, shape_of-same t)

-- tensors of dims have these
pub dims-without_values : (ds : List (List ℕ)) → dims_of_all (without_values ds) ≡ ds
dims-without_values [] = refl
dims-without_values (d ∷ ds) = ap (λ l. d ∷ l) (dims-without_values ds)

input_of-without_values : (ds : List (List ℕ)) (n : ℕ)
    → (input_of (without_values ds) n).dims ≡ get_or ds n []
input_of-without_values [] n = refl
input_of-without_values (d ∷ ds) zero = refl
input_of-without_values (d ∷ ds) (suc n) = input_of-without_values ds n

get_or-dims_of_all : (ts : List Contents) (n : ℕ) → get_or (dims_of_all ts) n [] ≡ (input_of ts n).dims
get_or-dims_of_all [] n = refl
get_or-dims_of_all (t ∷ ts) zero = refl
get_or-dims_of_all (t ∷ ts) (suc n) = get_or-dims_of_all ts n

-- so those of inputs and bindings have the dims of an input, or of a binding
module _ (inputs : List Contents) (bindings : List Binding) (n : ℕ) where
  abbrev both : List (List ℕ)
  both = dims_of_all inputs ++ map (λ b. b.dims) bindings

  pub dims-input : n < length inputs → (input_of (without_values both) n).dims ≡ (input_of inputs n).dims
  dims-input below =
      let inside : n < length (dims_of_all inputs) = omega (arith, length-map inputs (λ t. t.dims)) in
      input_of-without_values both n
      ∙ get_or_append_left (dims_of_all inputs) (map (λ b. b.dims) bindings) [] n inside
      ∙ get_or-dims_of_all inputs n

  pub dims-binding : (b : Binding) → length inputs ≤ n → n < length (without_values both)
      → b ≡ get_or bindings (n - length inputs) b → b.dims ≡ (input_of (without_values both) n).dims
  dims-binding b past there is =
      let all : length (without_values both) ≡ length both =
      length-map {B = Contents} both (λ d. record { dims = d; values = [] }) in
      let inside : n - length inputs < length bindings = omega (
        arith,
        all,
        length-append (dims_of_all inputs) (map (λ b. b.dims) bindings),
        length-map inputs (λ t. t.dims),
        length-map bindings (λ b. b.dims),
      ) in
      ap (λ x. x.dims) is ∙ sym (get_or-map (λ b. b.dims) bindings (n - length inputs) b [] inside)
      ∙ sym (get_or-append_right (dims_of_all inputs) (map (λ b. b.dims) bindings) (length inputs) n []
      (length-map inputs (λ t. t.dims)) past)
      ∙ sym (input_of-without_values both n)
