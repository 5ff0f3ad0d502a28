-- The steps of a whole expression.
use Rattle.std.proofs.Common.{◌≡◌, ◌+◌, ◌-◌, ◌^◌, ◌<◌, ◌≤◌, List, [], ◌∷◌, ◌++◌, length, map}
use Rattle.std.proofs.Common.{Bool, true, false, ◌||◌, Ok, IsOk, refl, ap, sym, ◌∙◌, arith}
use Rattle.std.proofs.lemmas.List.{length-append, length-map, map-append, append_assoc}
use Rattle.std.proofs.Math.Seq.{get_or-append_seam}
use Rattle.tensor_ops.specs.Legal.{widest}
use Rattle.tensor_ops.specs.Contents.{Contents, nothing, input_of}
use Rattle.tensor_ops.specs.Result.{dims_of}
use Rattle.tensor_ops.specs.Shaped.{Shaped}
use Rattle.tensor_ops.specs.Term.{Term, input, unary, binary, ternary, has_inputs, nodes_of}
use Rattle.tensor_ops.specs.Value.{tensor_of}
use Rattle.tensor_reduce.specs.private.Cutting.{IsCut, AreStepsOf}
use Rattle.tensor_ops.specs.Sequence.{worked_out}
use Rattle.tensor_reduce.specs.Plan.{dims_of_step, terms_in}
use Rattle.tensor_reduce.specs.Plan.{last_tensor, AreReady}
use Rattle.tensor_ops.specs.Facts.{combines, combines_two}
use Rattle.tensor_reduce.specs.Steps.{own, operand_nodes, step_nodes}
use Rattle.tensor_reduce.specs.Steps.{is_input, cut, steps_of}
use Rattle.tensor_reduce.specs.declared.step.Step.{Step}
use Rattle.tensor_reduce.proofs.Fits.{AreFit, fit-steps_of, worked_out-fit, AreReady-fit}

-- each step is another node
length-own : (is_step : Bool) (t : Term) → length (own is_step t) ≤ 1
length-own true t = omega arith
length-own false t = omega arith

length-operand_nodes : (t : Term) (whole : Bool) → length (operand_nodes whole t) ≤ nodes_of t
length-operand_nodes (input n) whole = omega arith
length-operand_nodes (unary o a) whole =
    let c : Bool = combines o in
    let last : List Term = own (whole || c) (unary o a) in
    omega (
      arith,
      length-append (operand_nodes c a) last,
      length-own (whole || c) (unary o a),
      length-operand_nodes a c,
    )
length-operand_nodes (binary o a b) whole =
    let c : Bool = combines_two o in
    let xs : List Term = operand_nodes c a in
    let ys : List Term = operand_nodes c b in
    omega (
      arith,
      length-append (xs ++ ys) (own (whole || c) (binary o a b)),
      length-append xs ys,
      length-own (whole || c) (binary o a b),
      length-operand_nodes a c,
      length-operand_nodes b c,
    )
length-operand_nodes (ternary o a b c) whole =
    let xs : List Term = operand_nodes false a in
    let ys : List Term = operand_nodes false b in
    let zs : List Term = operand_nodes false c in
    omega (
      arith,
      length-append (xs ++ ys ++ zs) (own whole (ternary o a b c)),
      length-append (xs ++ ys) zs,
      length-append xs ys,
      length-own whole (ternary o a b c),
      length-operand_nodes a false,
      length-operand_nodes b false,
      length-operand_nodes c false,
    )

length-step_nodes : (t : Term) → length (step_nodes t) ≤ nodes_of t
length-step_nodes (input n) = omega arith
length-step_nodes (unary o a) = length-operand_nodes (unary o a) true
length-step_nodes (binary o a b) = length-operand_nodes (binary o a b) true
length-step_nodes (ternary o a b c) = length-operand_nodes (ternary o a b c) true

-- the root is the last of the nodes that are steps
step_nodes-root : (t : Term) → (earlier : List Term) × (step_nodes t ≡ earlier ++ t ∷ [])
step_nodes-root (input n) = ([], refl)
step_nodes-root (unary o a) = (operand_nodes (combines o) a, refl)
step_nodes-root (binary o a b) =
    (operand_nodes (combines_two o) a ++ operand_nodes (combines_two o) b, refl)
step_nodes-root (ternary o a b c) =
    (operand_nodes false a ++ operand_nodes false b ++ operand_nodes false c, refl)

-- the last of tensors
pub last_tensor-append : (tensors : List Contents) (tensor : Contents)
    → last_tensor (tensors ++ tensor ∷ []) ≡ tensor
last_tensor-append tensors tensor =
    let there : length (tensors ++ tensor ∷ []) - 1 ≡ length tensors =
    omega (arith, length-append tensors (tensor ∷ [])) in
    ap (λ n. input_of (tensors ++ tensor ∷ []) n) there
    ∙ get_or-append_seam tensors tensor [] nothing

module _ (inputs : List Contents) (t : Term) (steps : List Step) where
  -- an expression that isn't an input
  pub steps-cut : (rest : Step) → is_input t ≡ false → IsCut inputs true t [] steps rest
      → AreStepsOf inputs t steps
  steps-cut rest inner done =
      let start : length inputs + 0 ≡ length inputs = omega arith in
      record {
        terms = rw inner (done.terms ∙ ap (λ n. (cut n true t).steps) start);
        nodes = rw inner done.nodes;
      }

  -- as many as there are nodes that are steps
  length-steps : AreStepsOf inputs t steps → length steps ≡ length (step_nodes t)
  length-steps are =
      omega (
        arith,
        ap length are.nodes,
        length-map {B = Shaped} steps (λ s. Ok (dims_of_step s)),
        length-map (step_nodes t) (λ a. dims_of widest a inputs),
      )

  pub some-steps_of : AreStepsOf inputs t steps → 0 < length steps
  some-steps_of are =
      let root = step_nodes-root t in
      omega (
        arith,
        length-steps are,
        ap length root.1,
        length-append root.0 (t ∷ []),
      )

  pub length-steps_of : AreStepsOf inputs t steps → length steps ≤ nodes_of t
  length-steps_of are = omega (arith, length-steps are, length-step_nodes t)

  module _ (names : has_inputs t (length inputs) ≡ true) (has : IsOk (dims_of widest t inputs))
      (are : AreStepsOf inputs t steps)
      (few : length inputs + length steps < 2 ^ 32) where
    fit : AreFit inputs inputs (steps_of (length inputs) t) (step_nodes t)
    fit = fit-steps_of inputs t names has (omega (arith, length-steps are))

    pub AreReady-steps_of : AreReady steps inputs
    AreReady-steps_of = AreReady-fit inputs inputs steps (steps_of (length inputs) t)
        (step_nodes t) fit are.terms are.nodes

    pub worked_out-steps_of : worked_out (terms_in steps) inputs
        ≡ inputs ++ map (λ a. tensor_of a inputs) (step_nodes t)
    worked_out-steps_of =
        ap (λ us. worked_out us inputs) are.terms
        ∙ worked_out-fit inputs inputs (steps_of (length inputs) t) (step_nodes t) fit

    pub last_tensor-steps_of :
        last_tensor (worked_out (terms_in steps) inputs) ≡ tensor_of t inputs
    last_tensor-steps_of =
        let root = step_nodes-root t in
        let tensor : Term → Contents = λ a. tensor_of a inputs in
        let earlier : List Contents = map tensor root.0 in
        let whole : inputs ++ map tensor (step_nodes t) ≡ inputs ++ earlier ++ tensor t ∷ [] =
        ap (λ ts. inputs ++ map tensor ts) root.1
        ∙ ap (λ l. inputs ++ l) (map-append tensor root.0 (t ∷ []))
        ∙ sym (append_assoc inputs earlier (tensor t ∷ [])) in
        ap last_tensor (worked_out-steps_of ∙ whole)
        ∙ last_tensor-append (inputs ++ earlier) (tensor t)
