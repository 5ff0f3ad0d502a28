-- What is left of an operand is, over the tensors of its steps, the operand itself.
use Rattle.std.proofs.Common.{◌≡◌, ℕ, ◌+◌, ◌^◌, ◌<◌, ◌≤◌, List, [], ◌∷◌, ◌++◌, length, map}
use Rattle.std.proofs.Common.{Bool, true, false, ◌&&◌, ◌||◌, IsOk, refl, ap, sym, subst, ◌∙◌}
use Rattle.std.proofs.Common.{arith, inl, inr}
use Rattle.std.proofs.lemmas.Bool.{cases_Bool, and_parts, and_from, or_parts}
use Rattle.std.proofs.lemmas.Bool.{lt-ltb, ltb-true}
use Rattle.std.proofs.lemmas.List.{length-append, append-nil, append_assoc}
use Rattle.std.proofs.Math.Seq.{get_or-append_seam}
use Rattle.tensor_ops.specs.Legal.{widest}
use Rattle.tensor_ops.specs.Contents.{Contents, input_of, nothing}
use Rattle.tensor_ops.specs.Result.{dims_of, unary_dims, binary_dims, ternary_dims}
use Rattle.tensor_ops.specs.Term.{Term, input, unary, binary, ternary, Unary, Binary, Ternary}
use Rattle.tensor_ops.specs.Term.{has_inputs}
use Rattle.tensor_ops.specs.Value.{tensor_of}
use Rattle.tensor_ops.proofs.SameTensors.{IsSameTensor, same-worked_out, same-input, same-unary}
use Rattle.tensor_ops.proofs.SameTensors.{same-binary, same-ternary}
use Rattle.tensor_ops.proofs.Shapes.{with_one-known, with_two-known, with_three-known}
use Rattle.tensor_ops.specs.Facts.{combines, combines_two}
use Rattle.tensor_reduce.specs.Steps.{own, operand_nodes, is_input}
use Rattle.tensor_reduce.specs.Steps.{number_of, Cut, split_off, cut}
use Rattle.tensor_reduce.specs.Steps.{combines_nothing, is_single}

-- a number of 32 bits is the place
number_of-small : (place : ℕ) → place < 2 ^ 32 → number_of place ≡ place
number_of-small place small = omega arith

-- each node that is a step has a term
length-split_off : (before : ℕ) (is_step : Bool) (us ts : List Term) (u t : Term)
    → length us ≡ length ts
    → length (split_off before is_step us u).steps ≡ length (ts ++ own is_step t)
length-split_off before true us ts u t same =
    omega (arith, length-append us (u ∷ []), length-append ts (t ∷ []))
length-split_off before false us ts u t same = same ∙ ap length (sym (append-nil ts))

pub length-cut : (t : Term) (before : ℕ) (whole : Bool)
    → length (cut before whole t).steps ≡ length (operand_nodes whole t)
length-cut (input n) before whole = refl
length-cut (unary o a) before whole =
    let x : Cut = cut before (combines o) a in
    length-split_off before (whole || combines o) x.steps (operand_nodes (combines o) a)
    (unary o x.left) (unary o a)
    (length-cut a before (combines o))
length-cut (binary o a b) before whole =
    let c : Bool = combines_two o in
    let x : Cut = cut before c a in
    let y : Cut = cut (before + length x.steps) c b in
    length-split_off before (whole || c) (x.steps ++ y.steps)
    (operand_nodes c a ++ operand_nodes c b) (binary o x.left y.left) (binary o a b)
    (omega (
      arith,
      length-append x.steps y.steps,
      length-append (operand_nodes c a) (operand_nodes c b),
      length-cut a before c,
      length-cut b (before + length x.steps) c,
    ))
length-cut (ternary o a b c) before whole =
    let x : Cut = cut before false a in
    let y : Cut = cut (before + length x.steps) false b in
    let z : Cut = cut (before + length x.steps + length y.steps) false c in
    let xs : List Term = operand_nodes false a in
    let ys : List Term = operand_nodes false b in
    let zs : List Term = operand_nodes false c in
    length-split_off before whole (x.steps ++ y.steps ++ z.steps) (xs ++ ys ++ zs)
    (ternary o x.left y.left z.left) (ternary o a b c)
    (omega (
      arith,
      length-append (x.steps ++ y.steps) z.steps,
      length-append x.steps y.steps,
      length-append (xs ++ ys) zs,
      length-append xs ys,
      length-cut a before false,
      length-cut b (before + length x.steps) false,
      length-cut c (before + length x.steps + length y.steps) false,
    ))

-- an operand that is needed whole is left as a tensor
pub is_input-cut : (t : Term) (before : ℕ) → is_input (cut before true t).left ≡ true
is_input-cut (input n) before = refl
is_input-cut (unary o a) before = refl
is_input-cut (binary o a b) before = refl
is_input-cut (ternary o a b c) before = refl

module _ (inputs : List Contents) where
  -- the tensors from a place on are those of nodes
  abbrev pub AreAt : List Contents → ℕ → List Term → Type 0
  AreAt tensors place [] = Unit {0}
  AreAt tensors place (t ∷ ts) =
      (input_of tensors place ≡ tensor_of t inputs) × AreAt tensors (place + 1) ts

  pub AreAt-left : (tensors : List Contents) (place : ℕ) (ts ss : List Term)
      → AreAt tensors place (ts ++ ss) → AreAt tensors place ts
  AreAt-left tensors place [] ss at = tt
  AreAt-left tensors place (t ∷ ts) ss at = (at.0, AreAt-left tensors (place + 1) ts ss at.1)

  pub AreAt-right : (tensors : List Contents) (place : ℕ) (ts ss : List Term)
      → AreAt tensors place (ts ++ ss)
      → AreAt tensors (place + length ts) ss
  AreAt-right tensors place [] ss at = subst (λ n. AreAt tensors n ss) (omega arith) at
  AreAt-right tensors place (t ∷ ts) ss at =
      let there : place + 1 + length ts ≡ place + length (t ∷ ts) = omega arith in
      subst (λ n. AreAt tensors n ss) there (AreAt-right tensors (place + 1) ts ss at.1)

  pub AreAt-append : (before : List Contents) (ts : List Term) (place : ℕ) → place ≡ length before
      → AreAt (before ++ map (λ t. tensor_of t inputs) ts) place ts
  AreAt-append before [] place here = tt
  AreAt-append before (t ∷ ts) place here =
      let rest : List Contents = map (λ s. tensor_of s inputs) ts in
      let joined : (before ++ tensor_of t inputs ∷ []) ++ rest
      ≡ before ++ tensor_of t inputs ∷ rest =
      append_assoc before (tensor_of t inputs ∷ []) rest in
      let next : place + 1 ≡ length (before ++ tensor_of t inputs ∷ []) =
      omega (arith, length-append before (tensor_of t inputs ∷ [])) in (
        ap (input_of (before ++ tensor_of t inputs ∷ rest)) here
            ∙ get_or-append_seam before (tensor_of t inputs) rest nothing,
        subst (λ l. AreAt l (place + 1) ts) joined
            (AreAt-append (before ++ tensor_of t inputs ∷ []) ts (place + 1) next),
      )

  -- tensors of which the inputs are the first, few enough for their numbers
  pub record AreOver (tensors : List Contents) : Type 0 where
    pub first : (n : ℕ) → n < length inputs → input_of tensors n ≡ input_of inputs n
    pub more : length inputs ≤ length tensors
    pub few : length tensors ≤ 2 ^ 32

  -- a term over these that is the tensor of a node, and combines nothing
  pub record IsLeft (tensors : List Contents) (u t : Term) : Type 0 where
    pub same : IsSameTensor u tensors t inputs
    pub names : has_inputs u (length tensors) ≡ true
    pub plain : combines_nothing u ≡ true

  -- a term that can be evaluated as one step, and combines nothing if the node doesn't
  pub record IsBody (tensors : List Contents) (is_combining : Bool) (u t : Term) : Type 0 where
    pub same : IsSameTensor u tensors t inputs
    pub names : has_inputs u (length tensors) ≡ true
    pub single : is_single u ≡ true
    pub plain : is_combining ≡ false → combines_nothing u ≡ true

  module _ (tensors : List Contents) (over : AreOver tensors) where
    left-input : (n : ℕ) → has_inputs (input n) (length inputs) ≡ true
        → IsLeft tensors (input n) (input n)
    left-input n names =
        let below : n < length inputs = ltb-true n (length inputs) names in
        record {
          same = same-input tensors inputs n (over.first n below);
          names =
              lt-ltb n (length tensors) (omega (arith, over.more));
          plain = refl;
        }

    -- the tensor of a step
    left-step : (place : ℕ) (t : Term) → place < length tensors → IsOk (dims_of widest t inputs)
        → input_of tensors place ≡ tensor_of t inputs
        → IsLeft tensors (input (number_of place)) t
    left-step place t below has here =
        let number : number_of place ≡ place = number_of-small place (omega (arith, over.few)) in
        subst (λ n. IsLeft tensors (input n) t) (sym number)
        (record {
          same = same-worked_out tensors inputs place t has here;
          names =
              lt-ltb place (length tensors) below;
          plain = refl;
        })

    -- a node is left as its own tensor, or as it is
    left-split_off : (before : ℕ) (is_step : Bool) (us ts : List Term) (u t : Term)
        → length us ≡ length ts
        → before + length (ts ++ own is_step t) ≤ length tensors
        → AreAt tensors before (ts ++ own is_step t) → IsOk (dims_of widest t inputs)
        → (is_step ≡ false → IsLeft tensors u t)
        → IsLeft tensors (split_off before is_step us u).left t
    left-split_off before true us ts u t same within at has alone =
        let last = AreAt-right tensors before ts (t ∷ []) at in
        left-step (before + length us) t (omega (arith, length-append ts (t ∷ []))) has
        (ap (λ n. input_of tensors (before + n)) same ∙ last.0)
    left-split_off before false us ts u t same within at has alone = alone refl

    pub body-unary : (o : Unary) (u a : Term) → IsOk (dims_of widest (unary o a) inputs)
        → IsLeft tensors u a
        → (combines o ≡ true → is_input u ≡ true)
        → IsBody tensors (combines o) (unary o u) (unary o a)
    body-unary o u a has left whole = record {
      same = same-unary tensors inputs o u a has left.same;
      names = left.names;
      single =
          elim (cases_Bool (combines o)) [
            | inl combining ↦ rw combining (whole combining)
            | inr plain ↦ rw plain left.plain
          ];
      plain = λ plain. rw plain left.plain;
    }

    pub body-binary : (o : Binary) (u v a b : Term) → IsOk (dims_of widest (binary o a b) inputs)
        → IsLeft tensors u a → IsLeft tensors v b
        → (combines_two o ≡ true → (is_input u ≡ true) × (is_input v ≡ true))
        → IsBody tensors (combines_two o) (binary o u v) (binary o a b)
    body-binary o u v a b has left right whole =
        let plain : (combines_nothing u && combines_nothing v) ≡ true =
        and_from (combines_nothing u) (combines_nothing v) left.plain right.plain in
        record {
          same = same-binary tensors inputs o u a v b has left.same right.same;
          names = and_from (has_inputs u (length tensors)) (has_inputs v (length tensors))
              left.names right.names;
          single =
              elim (cases_Bool (combines_two o)) [
                | inl combining ↦
                    let both = whole combining in
                    rw combining (and_from (is_input u) (is_input v) both.0 both.1)
                | inr pairing ↦ rw pairing plain
              ];
          plain = λ pairing. rw pairing plain;
        }

    pub body-ternary : (o : Ternary) (u v w a b c : Term)
        → IsOk (dims_of widest (ternary o a b c) inputs) → IsLeft tensors u a → IsLeft tensors v b
        → IsLeft tensors w c → IsBody tensors false (ternary o u v w) (ternary o a b c)
    body-ternary o u v w a b c has first second third =
        let plain = and_from (combines_nothing u) (combines_nothing v && combines_nothing w)
        first.plain
        (and_from (combines_nothing v) (combines_nothing w) second.plain third.plain) in
        let n : ℕ = length tensors in
        record {
          same = same-ternary tensors inputs o u a v b w c has first.same second.same third.same;
          names = and_from (has_inputs u n) (has_inputs v n && has_inputs w n) first.names
              (and_from (has_inputs v n) (has_inputs w n) second.names third.names);
          single = plain;
          plain = λ none. plain;
        }

    -- what combines nothing itself is left as it is
    left-body : (is_combining : Bool) (whole : Bool) (u t : Term)
        → IsBody tensors is_combining u t → (whole || is_combining) ≡ false
        → IsLeft tensors u t
    left-body is_combining whole u t body none =
        record {
          same = body.same;
          names = body.names;
          plain =
              body.plain (or_parts whole is_combining none).1;
        }

  -- what is left of an operand, over tensors among which are those of its steps
  pub left-cut : (t : Term) (tensors : List Contents) (over : AreOver tensors) (before : ℕ)
      (whole : Bool)
      → has_inputs t (length inputs) ≡ true → IsOk (dims_of widest t inputs)
      → AreAt tensors before (operand_nodes whole t)
      → before + length (operand_nodes whole t) ≤ length tensors
      → IsLeft tensors (cut before whole t).left t
  left-cut (input n) tensors over before whole names has at within = left-input tensors over n names
  left-cut (unary o a) tensors over before whole names has at within =
      let c : Bool = combines o in
      let ts : List Term = operand_nodes c a in
      let last : List Term = own (whole || c) (unary o a) in
      let x : Cut = cut before c a in
      let known = with_one-known (unary_dims widest o) (dims_of widest a inputs) has in
      let left = left-cut a tensors over before c names known.0
      (AreAt-left tensors before ts last at) (omega (arith, length-append ts last)) in
      let body = body-unary tensors over o x.left a has left
      (λ e. ap (λ b. is_input (cut before b a).left) e ∙ is_input-cut a before) in
      left-split_off tensors over before (whole || c) x.steps ts (unary o x.left) (unary o a)
      (length-cut a before c) within at has
      (left-body tensors over c whole (unary o x.left) (unary o a) body)
  left-cut (binary o a b) tensors over before whole names has at within =
      let c : Bool = combines_two o in
      let xs : List Term = operand_nodes c a in
      let ys : List Term = operand_nodes c b in
      let last : List Term = own (whole || c) (binary o a b) in
      let x : Cut = cut before c a in
      let next : ℕ = before + length x.steps in
      let y : Cut = cut next c b in
      let known = with_two-known (binary_dims widest o) (dims_of widest a inputs) (dims_of widest b inputs) has in
      let each = and_parts (has_inputs a (length inputs)) (has_inputs b (length inputs)) names in
      let front = AreAt-left tensors before (xs ++ ys) last at in
      let there : before + length xs ≡ next = omega (arith, length-cut a before c) in
      let second = subst (λ n. AreAt tensors n ys) there (AreAt-right tensors before xs ys front) in
      let long : length (xs ++ ys ++ last) ≡ length xs + length ys + length last =
      omega (arith, length-append (xs ++ ys) last, length-append xs ys) in
      let left = left-cut a tensors over before c each.0 known.0
      (AreAt-left tensors before xs ys front) (omega arith) in
      let right = left-cut b tensors over next c each.1 known.1 second (omega arith) in
      let body = body-binary tensors over o x.left y.left a b has left right
      (λ e. (
        ap (λ d. is_input (cut before d a).left) e
            ∙ is_input-cut a before,
        ap (λ d. is_input (cut next d b).left) e
            ∙ is_input-cut b next,
      )) in
      let same : length (x.steps ++ y.steps) ≡ length (xs ++ ys) =
      omega (
        arith,
        length-append x.steps y.steps,
        length-append xs ys,
        length-cut a before c,
        length-cut b next c,
      ) in
      left-split_off tensors over before (whole || c) (x.steps ++ y.steps) (xs ++ ys)
      (binary o x.left y.left) (binary o a b) same within at has
      (left-body tensors over c whole (binary o x.left y.left) (binary o a b) body)
  left-cut (ternary o a b c) tensors over before whole names has at within =
      let xs : List Term = operand_nodes false a in
      let ys : List Term = operand_nodes false b in
      let zs : List Term = operand_nodes false c in
      let last : List Term = own whole (ternary o a b c) in
      let x : Cut = cut before false a in
      let next : ℕ = before + length x.steps in
      let y : Cut = cut next false b in
      let after : ℕ = next + length y.steps in
      let z : Cut = cut after false c in
      let known = with_three-known (ternary_dims o) (dims_of widest a inputs) (dims_of widest b inputs)
      (dims_of widest c inputs) has in
      let n : ℕ = length inputs in
      let each = and_parts (has_inputs a n) (has_inputs b n && has_inputs c n) names in
      let others = and_parts (has_inputs b n) (has_inputs c n) each.1 in
      let all = AreAt-left tensors before (xs ++ ys ++ zs) last at in
      let front = AreAt-left tensors before (xs ++ ys) zs all in
      let there : before + length xs ≡ next = omega (arith, length-cut a before false) in
      let second = subst (λ n. AreAt tensors n ys) there (AreAt-right tensors before xs ys front) in
      let later : before + length (xs ++ ys) ≡ after =
      omega (arith, length-append xs ys, length-cut a before false, length-cut b next false) in
      let third = subst (λ n. AreAt tensors n zs) later
      (AreAt-right tensors before (xs ++ ys) zs all) in
      let long : length (xs ++ ys ++ zs ++ last) ≡ length xs + length ys + length zs + length last =
      omega (
        arith,
        length-append (xs ++ ys ++ zs) last,
        length-append (xs ++ ys) zs,
        length-append
            xs ys,
      ) in
      let left = left-cut a tensors over before false each.0 known.0
      (AreAt-left tensors before xs ys front) (omega arith) in
      let middle = left-cut b tensors over next false others.0 known.1 second (omega arith) in
      let right = left-cut c tensors over after false others.1 known.2 third
      (omega (arith, later, length-append xs ys)) in
      let body = body-ternary tensors over o x.left y.left z.left a b c has left middle right in
      let same : length (x.steps ++ y.steps ++ z.steps) ≡ length (xs ++ ys ++ zs) =
      omega (
        arith,
        length-append (x.steps ++ y.steps) z.steps,
        length-append x.steps y.steps,
        length-append (xs ++ ys) zs,
        length-append xs ys,
        length-cut a before false,
        length-cut b next false,
        length-cut c after false,
      ) in
      left-split_off tensors over before whole (x.steps ++ y.steps ++ z.steps) (xs ++ ys ++ zs)
      (ternary o x.left y.left z.left) (ternary o a b c)
      same within at has
      (λ none. record { same = body.same; names = body.names; plain = body.plain refl })
