-- Steps evaluated one after the other give the tensors of their nodes.
use Rattle.std.proofs.Common.{◌≡◌, ℕ, ◌+◌, ◌^◌, ◌<◌, ◌≤◌, List, [], ◌∷◌, ◌++◌, length, map}
use Rattle.std.proofs.Common.{Bool, true, false, ◌&&◌, ◌||◌, Ok, IsOk, refl, ap, sym, subst, ◌∙◌}
use Rattle.std.proofs.Common.{arith}
use Rattle.std.proofs.lemmas.Bool.{and_parts}
use Rattle.std.proofs.lemmas.List.{length-append, length-map, append-nil, append_assoc}
use Rattle.std.proofs.lemmas.List.{get_or_append_left}
use Rattle.tensor_ops.specs.Legal.{widest}
use Rattle.tensor_ops.specs.Contents.{Contents, nothing}
use Rattle.tensor_ops.specs.Result.{dims_of, unary_dims, binary_dims, ternary_dims}
use Rattle.tensor_ops.specs.Term.{Term, input, unary, binary, ternary, has_inputs}
use Rattle.tensor_ops.specs.Value.{tensor_of}
use Rattle.tensor_ops.proofs.SameTensors.{IsSameTensor, same-input, tensor_of-same}
use Rattle.tensor_ops.proofs.Shapes.{with_one-known, with_two-known, with_three-known}
use Rattle.tensor_ops.specs.Sequence.{worked_out}
use Rattle.tensor_reduce.specs.Plan.{term_of_step, dims_of_step, terms_in, dims_in}
use Rattle.tensor_reduce.specs.Plan.{AreReady}
use Rattle.tensor_ops.specs.Facts.{combines, combines_two}
use Rattle.tensor_reduce.specs.Steps.{own, operand_nodes, step_nodes}
use Rattle.tensor_reduce.specs.Steps.{is_input}
use Rattle.tensor_reduce.specs.Steps.{Cut, split_off, cut, steps_of, is_single}
use Rattle.tensor_reduce.specs.declared.step.Step.{Step}
use Rattle.tensor_reduce.proofs.Named.{length-cut, is_input-cut, AreAt, AreAt-left, AreAt-right}
use Rattle.tensor_reduce.proofs.Named.{AreAt-append}
use Rattle.tensor_reduce.proofs.Named.{AreOver, IsBody, left-cut, body-unary, body-binary}
use Rattle.tensor_reduce.proofs.Named.{body-ternary}

module _ (inputs : List Contents) where
  -- the tensors of nodes
  abbrev pub tensors_of : List Term → List Contents
  tensors_of ts = map (λ t. tensor_of t inputs) ts

  -- a term that can be evaluated as one step, as the tensor of a node
  pub record IsFit (tensors : List Contents) (u t : Term) : Type 0 where
    pub same : IsSameTensor u tensors t inputs
    pub names : has_inputs u (length tensors) ≡ true
    pub single : is_single u ≡ true

  -- so can each of these, one after the other
  abbrev pub AreFit : List Contents → List Term → List Term → Type 0
  AreFit tensors [] [] = Unit {0}
  AreFit tensors [] (t ∷ ts) = ⊥
  AreFit tensors (u ∷ us) [] = ⊥
  AreFit tensors (u ∷ us) (t ∷ ts) =
      IsFit tensors u t × AreFit (tensors ++ tensor_of t inputs ∷ []) us ts

  AreFit-append : (tensors : List Contents) (us ts vs ss : List Term) → AreFit tensors us ts
      → AreFit (tensors ++ tensors_of ts) vs ss
      → AreFit tensors (us ++ vs) (ts ++ ss)
  AreFit-append tensors [] [] vs ss first second =
      subst (λ l. AreFit l vs ss) (append-nil tensors) second
  AreFit-append tensors [] (t ∷ ts) vs ss first second = absurd first
  AreFit-append tensors (u ∷ us) [] vs ss first second = absurd first
  AreFit-append tensors (u ∷ us) (t ∷ ts) vs ss first second =
      let joined = append_assoc tensors (tensor_of t inputs ∷ []) (tensors_of ts) in (
        first.0,
        AreFit-append (tensors ++ tensor_of t inputs ∷ []) us ts vs ss first.1
            (subst (λ l. AreFit l vs ss) (sym joined) second),
      )

  -- the node behind its operands
  AreFit-split_off : (tensors : List Contents) (before : ℕ) (is_step : Bool) (us ts : List Term)
      (u t : Term) → AreFit tensors us ts
      → IsFit (tensors ++ tensors_of ts) u t
      → AreFit tensors (split_off before is_step us u).steps (ts ++ own is_step t)
  AreFit-split_off tensors before true us ts u t first fit =
      AreFit-append tensors us ts (u ∷ []) (t ∷ []) first (fit, tt)
  AreFit-split_off tensors before false us ts u t first fit =
      subst (AreFit tensors us) (sym (append-nil ts)) first

  -- tensors over the inputs, and more
  AreOver-more : (tensors : List Contents) (ts : List Term) → AreOver inputs tensors
      → length tensors + length ts ≤ 2 ^ 32
      → AreOver inputs (tensors ++ tensors_of ts)
  AreOver-more tensors ts over few =
      let long : length (tensors ++ tensors_of ts) ≡ length tensors + length ts =
      omega (arith, length-append tensors (tensors_of ts), length-map ts (λ t. tensor_of t inputs))
      in
      record {
        first = λ n below. get_or_append_left tensors (tensors_of ts) nothing n
            (omega (arith, over.more)) ∙ over.first n below;
        more = omega (arith, over.more);
        few = omega arith;
      }

  length-more : (tensors : List Contents) (ts : List Term)
      → length (tensors ++ tensors_of ts) ≡ length tensors + length ts
  length-more tensors ts =
      omega (arith, length-append tensors (tensors_of ts), length-map ts (λ t. tensor_of t inputs))

  fit-body : (tensors : List Contents) (is_combining : Bool) (u t : Term)
      → IsBody inputs tensors is_combining u t → IsFit tensors u t
  fit-body tensors is_combining u t body =
      record { same = body.same; names = body.names; single = body.single }

  fit-cut : (t : Term) (tensors : List Contents) (whole : Bool) (before : ℕ)
      → before ≡ length tensors → AreOver inputs tensors
      → has_inputs t (length inputs) ≡ true → IsOk (dims_of widest t inputs)
      → length tensors + length (operand_nodes whole t) ≤ 2 ^ 32
      → AreFit tensors (cut before whole t).steps (operand_nodes whole t)
  fit-cut (input n) tensors whole before here over names has few = tt
  fit-cut (unary o a) tensors whole before here over names has few =
      let c : Bool = combines o in
      let ts : List Term = operand_nodes c a in
      let x : Cut = cut before c a in
      let known = with_one-known (unary_dims widest o) (dims_of widest a inputs) has in
      let room : length tensors + length ts ≤ 2 ^ 32 =
      omega (arith, length-append ts (own (whole || c) (unary o a))) in
      let first = fit-cut a tensors c before here over names known.0 room in
      let all = AreOver-more tensors ts over room in
      let left = left-cut inputs a (tensors ++ tensors_of ts) all before c names known.0
      (AreAt-append inputs tensors ts before here)
      (omega (arith, length-more tensors ts)) in
      let body = body-unary inputs (tensors ++ tensors_of ts) all o x.left a has left
      (λ e. ap (λ b. is_input (cut before b a).left) e ∙ is_input-cut a before) in
      AreFit-split_off tensors before (whole || c) x.steps ts (unary o x.left) (unary o a) first
      (fit-body (tensors ++ tensors_of ts) c (unary o x.left) (unary o a) body)
  fit-cut (binary o a b) tensors whole before here over names has few =
      let c : Bool = combines_two o in
      let xs : List Term = operand_nodes c a in
      let ys : List Term = operand_nodes c b in
      let last : List Term = own (whole || c) (binary o a b) in
      let x : Cut = cut before c a in
      let next : ℕ = before + length x.steps in
      let y : Cut = cut next c b in
      let known = with_two-known (binary_dims widest o) (dims_of widest a inputs) (dims_of widest b inputs) has in
      let each = and_parts (has_inputs a (length inputs)) (has_inputs b (length inputs)) names in
      let long : length (xs ++ ys ++ last) ≡ length xs + length ys + length last =
      omega (arith, length-append (xs ++ ys) last, length-append xs ys) in
      let two : length (xs ++ ys) ≡ length xs + length ys = length-append xs ys in
      let counted = length-cut a before c in
      let middle : List Contents = tensors ++ tensors_of xs in
      let all : List Contents = tensors ++ tensors_of (xs ++ ys) in
      let over_middle = AreOver-more tensors xs over (omega arith) in
      let over_all = AreOver-more tensors (xs ++ ys) over (omega arith) in
      let there : next ≡ length middle = omega (arith, length-more tensors xs) in
      let first = fit-cut a tensors c before here over each.0 known.0 (omega arith) in
      let second = fit-cut b middle c next there over_middle each.1 known.1
      (omega (arith, length-more tensors xs)) in
      let both = AreFit-append tensors x.steps xs y.steps ys first second in
      let at = AreAt-append inputs tensors (xs ++ ys) before here in
      let behind : before + length xs ≡ next = omega arith in
      let at_second = subst (λ n. AreAt inputs all n ys) behind
      (AreAt-right inputs all before xs ys at) in
      let within = length-more tensors (xs ++ ys) in
      let left = left-cut inputs a all over_all before c each.0 known.0
      (AreAt-left inputs all before xs ys at) (omega arith) in
      let right = left-cut inputs b all over_all next c each.1 known.1 at_second (omega arith) in
      let body = body-binary inputs all over_all o x.left y.left a b has left right
      (λ e. (
        ap (λ d. is_input (cut before d a).left) e
            ∙ is_input-cut a before,
        ap (λ d. is_input (cut next d b).left) e
            ∙ is_input-cut b next,
      )) in
      AreFit-split_off tensors before (whole || c) (x.steps ++ y.steps) (xs ++ ys)
      (binary o x.left y.left) (binary o a b) both
      (fit-body all c (binary o x.left y.left) (binary o a b) body)
  fit-cut (ternary o a b c) tensors whole before here over names has few =
      let xs : List Term = operand_nodes false a in
      let ys : List Term = operand_nodes false b in
      let zs : List Term = operand_nodes false c in
      let last : List Term = own whole (ternary o a b c) in
      let x : Cut = cut before false a in
      let next : ℕ = before + length x.steps in
      let y : Cut = cut next false b in
      let after : ℕ = next + length y.steps in
      let z : Cut = cut after false c in
      let known = with_three-known (ternary_dims o) (dims_of widest a inputs) (dims_of widest b inputs)
      (dims_of widest c inputs) has in
      let n : ℕ = length inputs in
      let each = and_parts (has_inputs a n) (has_inputs b n && has_inputs c n) names in
      let others = and_parts (has_inputs b n) (has_inputs c n) each.1 in
      let two : length (xs ++ ys) ≡ length xs + length ys = length-append xs ys in
      let three : length (xs ++ ys ++ zs) ≡ length xs + length ys + length zs =
      omega (arith, length-append (xs ++ ys) zs) in
      let long : length (xs ++ ys ++ zs ++ last)
      ≡ length xs + length ys + length zs + length last =
      omega (arith, length-append (xs ++ ys ++ zs) last) in
      let counted = length-cut a before false in
      let counted_next = length-cut b next false in
      let middle : List Contents = tensors ++ tensors_of xs in
      let later : List Contents = tensors ++ tensors_of (xs ++ ys) in
      let all : List Contents = tensors ++ tensors_of (xs ++ ys ++ zs) in
      let over_middle = AreOver-more tensors xs over (omega arith) in
      let over_later = AreOver-more tensors (xs ++ ys) over (omega arith) in
      let over_all = AreOver-more tensors (xs ++ ys ++ zs) over (omega arith) in
      let there : next ≡ length middle = omega (arith, length-more tensors xs) in
      let there_later : after ≡ length later = omega (arith, length-more tensors (xs ++ ys)) in
      let first = fit-cut a tensors false before here over each.0 known.0 (omega arith) in
      let second = fit-cut b middle false next there over_middle others.0 known.1
      (omega (arith, length-more tensors xs)) in
      let third = fit-cut c later false after there_later over_later others.1 known.2
      (omega (arith, length-more tensors (xs ++ ys))) in
      let both = AreFit-append tensors x.steps xs y.steps ys first second in
      let three_fit = AreFit-append tensors (x.steps ++ y.steps) (xs ++ ys) z.steps zs both third in
      let at = AreAt-append inputs tensors (xs ++ ys ++ zs) before here in
      let at_front = AreAt-left inputs all before (xs ++ ys) zs at in
      let behind : before + length xs ≡ next = omega arith in
      let behind_later : before + length (xs ++ ys) ≡ after = omega arith in
      let at_second = subst (λ n. AreAt inputs all n ys) behind
      (AreAt-right inputs all before xs ys at_front) in
      let at_third = subst (λ n. AreAt inputs all n zs) behind_later
      (AreAt-right inputs all before (xs ++ ys) zs at) in
      let within = length-more tensors (xs ++ ys ++ zs) in
      let left = left-cut inputs a all over_all before false each.0 known.0
      (AreAt-left inputs all before xs ys at_front) (omega arith) in
      let centre = left-cut inputs b all over_all next false others.0 known.1 at_second
      (omega arith) in
      let right = left-cut inputs c all over_all after false others.1 known.2 at_third
      (omega arith) in
      let body = body-ternary inputs all over_all o x.left y.left z.left a b c has left centre
      right in
      AreFit-split_off tensors before whole (x.steps ++ y.steps ++ z.steps) (xs ++ ys ++ zs)
      (ternary o x.left y.left z.left) (ternary o a b c)
      three_fit
      (fit-body all false (ternary o x.left y.left z.left) (ternary o a b c) body)

  itself : length inputs ≤ 2 ^ 32 → AreOver inputs inputs
  itself few = record { first = λ n below. refl; more = omega arith; few = few }

  -- the steps of an expression fit, where there are numbers for them
  pub fit-steps_of : (t : Term) → has_inputs t (length inputs) ≡ true → IsOk (dims_of widest t inputs)
      → length inputs + length (step_nodes t) < 2 ^ 32
      → AreFit inputs (steps_of (length inputs) t) (step_nodes t)
  fit-steps_of (input n) names has few =
      (record { same = same-input inputs inputs n refl; names = names; single = refl }, tt)
  fit-steps_of (unary o a) names has few =
      fit-cut (unary o a) inputs true (length inputs) refl (itself (omega arith)) names has
      (omega arith)
  fit-steps_of (binary o a b) names has few =
      fit-cut (binary o a b) inputs true (length inputs) refl (itself (omega arith)) names has
      (omega arith)
  fit-steps_of (ternary o a b c) names has few =
      fit-cut (ternary o a b c) inputs true (length inputs) refl (itself (omega arith)) names has
      (omega arith)

  -- their tensors come behind those that are there
  pub worked_out-fit : (tensors : List Contents) (us ts : List Term) → AreFit tensors us ts
      → worked_out us tensors ≡ tensors ++ tensors_of ts
  worked_out-fit tensors [] [] fit = sym (append-nil tensors)
  worked_out-fit tensors [] (t ∷ ts) fit = absurd fit
  worked_out-fit tensors (u ∷ us) [] fit = absurd fit
  worked_out-fit tensors (u ∷ us) (t ∷ ts) fit =
      ap (λ x. worked_out us (tensors ++ x ∷ [])) (tensor_of-same u t tensors inputs fit.0.same)
      ∙ worked_out-fit (tensors ++ tensor_of t inputs ∷ []) us ts fit.1
      ∙ append_assoc tensors (tensor_of t inputs ∷ []) (tensors_of ts)

  -- steps of these terms, with the dims of their nodes, are ready
  pub AreReady-fit : (tensors : List Contents) (steps : List Step) (us ts : List Term)
      → AreFit tensors us ts → terms_in steps ≡ us
      → dims_in steps ≡ map (λ t. dims_of widest t inputs) ts → AreReady steps tensors
  AreReady-fit tensors [] us ts fit terms dims = tt
  AreReady-fit tensors (s ∷ steps) [] ts fit terms dims = (cc)
  AreReady-fit tensors (s ∷ steps) (u ∷ us) [] fit terms dims = (cc)
  AreReady-fit tensors (s ∷ steps) (u ∷ us) (t ∷ ts) fit terms dims =
      let term : term_of_step s ≡ u = (cc) in
      let shape : Ok (dims_of_step s) ≡ dims_of widest t inputs = (cc) in
      let rest : terms_in steps ≡ us = (cc) in
      let shapes : dims_in steps ≡ map (λ x. dims_of widest x inputs) ts = (cc) in
      let same : tensor_of (term_of_step s) tensors ≡ tensor_of t inputs =
      ap (λ v. tensor_of v tensors) term ∙ tensor_of-same u t tensors inputs fit.0.same in (
        record {
          single = ap is_single term ∙ fit.0.single;
          inputs = ap (λ v. has_inputs v (length tensors)) term ∙ fit.0.names;
          dims = ap (λ v. dims_of widest v tensors) term ∙ fit.0.same.dims ∙ sym shape;
        },
        subst (λ x. AreReady steps (tensors ++ x ∷ [])) (sym same)
            (AreReady-fit (tensors ++ tensor_of t inputs ∷ []) steps us ts fit.1 rest shapes),
      )
