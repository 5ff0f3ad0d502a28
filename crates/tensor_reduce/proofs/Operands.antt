-- What an expression with its inputs and with dims says of its operands.
use Rattle.std.proofs.Common.{◌≡◌, ℕ, ◌<◌, List, [], ◌∷◌, length, ◌&&◌, true, Ok, IsOk}
use Rattle.std.proofs.Common.{ap, subst, sym, ◌∙◌, arith}
use Rattle.std.proofs.lemmas.Bool.{and_parts}
use Rattle.tensor_ops.specs.Legal.{widest}
use Rattle.tensor_ops.specs.Contents.{Contents}
use Rattle.tensor_ops.specs.Result.{dims_of, operand_dims, unary_dims, binary_dims, ternary_dims}
use Rattle.tensor_ops.specs.Term.{Term, unary, binary, ternary, Unary, Binary, Ternary}
use Rattle.tensor_ops.specs.Term.{has_inputs, nodes_of}
use Rattle.tensor_ops.proofs.Shapes.{with_one-known, with_two-known, with_three-known}

module _ (inputs : List Contents) where
  -- a term with its inputs and with dims
  pub record HasDims (t : Term) : Type 0 where
    pub names : has_inputs t (length inputs) ≡ true
    pub dims : IsOk (dims_of widest t inputs)

  -- an operand of such a term, with fewer nodes
  pub record IsOperand (t a : Term) : Type 0 where
    pub fewer : nodes_of a < nodes_of t
    pub has : HasDims a

  pub operand-unary : (o : Unary) (a t : Term) → unary o a ≡ t → HasDims t → IsOperand t a
  operand-unary o a t is whole =
      subst (λ r. HasDims r → IsOperand r a) is
      (λ all. record {
        fewer = omega arith;
        has = record {
          names = all.names;
          dims = (with_one-known (unary_dims widest o) (dims_of widest a inputs)
              all.dims).0;
        };
      }) whole

  pub operands-binary : (o : Binary) (a b t : Term) → binary o a b ≡ t → HasDims t
      → IsOperand t a × IsOperand t b
  operands-binary o a b t is whole =
      subst (λ r. HasDims r → IsOperand r a × IsOperand r b) is
      (λ all.
      let n = length inputs in
      let names = and_parts (has_inputs a n) (has_inputs b n) all.names in
      let dims = with_two-known (binary_dims widest o) (dims_of widest a inputs)
      (dims_of widest b inputs) all.dims in (
        record { fewer = omega arith; has = record { names = names.0; dims = dims.0 } },
        record { fewer = omega arith; has = record { names = names.1; dims = dims.1 } },
      )) whole

  pub operands-ternary : (o : Ternary) (a b c t : Term) → ternary o a b c ≡ t → HasDims t
      → IsOperand t a × IsOperand t b × IsOperand t c
  operands-ternary o a b c t is whole =
      subst (λ r. HasDims r → IsOperand r a × IsOperand r b × IsOperand r c) is
      (λ all.
      let n = length inputs in
      let names = and_parts (has_inputs a n) (has_inputs b n && has_inputs c n) all.names in
      let others = and_parts (has_inputs b n) (has_inputs c n) names.1 in
      let dims = with_three-known (ternary_dims o) (dims_of widest a inputs)
      (dims_of widest b inputs) (dims_of widest c inputs) all.dims in (
        record { fewer = omega arith; has = record { names = names.0; dims = dims.0 } },
        record { fewer = omega arith; has = record { names = others.0; dims = dims.1 } },
        record { fewer = omega arith; has = record { names = others.1; dims = dims.2 } },
      )) whole

  -- the dims of the operands are those that were found of each
  pub dims-unary : (o : Unary) (a t : Term) (d : List ℕ) → unary o a ≡ t
      → dims_of widest a inputs ≡ Ok d → operand_dims widest t inputs ≡ Ok d ∷ []
  dims-unary o a t d is first =
      sym (ap (λ r. operand_dims widest r inputs) is) ∙ ap (λ x. x ∷ []) first

  pub dims-binary : (o : Binary) (a b t : Term) (d e : List ℕ) → binary o a b ≡ t
      → dims_of widest a inputs ≡ Ok d → dims_of widest b inputs ≡ Ok e
      → operand_dims widest t inputs ≡ Ok d ∷ Ok e ∷ []
  dims-binary o a b t d e is first second =
      sym (ap (λ r. operand_dims widest r inputs) is)
      ∙ ap (λ x. x ∷ dims_of widest b inputs ∷ []) first ∙ ap (λ x. Ok d ∷ x ∷ []) second

  pub dims-ternary : (o : Ternary) (a b c t : Term) (d e f : List ℕ) → ternary o a b c ≡ t
      → dims_of widest a inputs ≡ Ok d → dims_of widest b inputs ≡ Ok e
      → dims_of widest c inputs ≡ Ok f
      → operand_dims widest t inputs ≡ Ok d ∷ Ok e ∷ Ok f ∷ []
  dims-ternary o a b c t d e f is first second third =
      sym (ap (λ r. operand_dims widest r inputs) is)
      ∙ ap (λ x. x ∷ dims_of widest b inputs ∷ dims_of widest c inputs ∷ []) first
      ∙ ap (λ x. Ok d ∷ x ∷ dims_of widest c inputs ∷ []) second
      ∙ ap (λ x. Ok d ∷ Ok e ∷ x ∷ []) third
