-- The walk over an expression adds the steps of the operands, and then the node's own.
use Rattle.std.proofs.Common.{◌≡◌, ℕ, ◌+◌, List, [], ◌∷◌, ◌++◌, length, map}
use Rattle.std.proofs.Common.{Bool, true, false, ◌||◌, Result, Ok, Err, IfOk, ap, sym, subst}
use Rattle.std.proofs.Common.{◌∙◌, arith}
use Rattle.std.proofs.lemmas.List.{length-append, length-map, map-append, append-nil, append_assoc}
use Rattle.tensor_ops.specs.Legal.{widest}
use Rattle.tensor_ops.specs.Contents.{Contents}
use Rattle.tensor_ops.specs.Result.{dims_of}
use Rattle.tensor_ops.specs.Shaped.{Shaped}
use Rattle.tensor_ops.specs.Term.{Term, input, unary, binary, ternary, Unary, Binary, Ternary}
use Rattle.tensor_reduce.specs.private.Cutting.{IsCut, IsSplitOff}
use Rattle.tensor_reduce.specs.Plan.{term_of_step, dims_of_step, terms_in, dims_in}
use Rattle.tensor_ops.specs.Facts.{combines, combines_two}
use Rattle.tensor_reduce.specs.Steps.{own, operand_nodes, number_of, Cut}
use Rattle.tensor_reduce.specs.Steps.{split_off, cut}
use Rattle.tensor_reduce.specs.declared.step.Step.{Step}

-- a fact that follows of a result
pub IfOk-then : {X E : Type 0} (r : Result X E) (P Q : X → Type 0) → ((x : X) → P x → Q x)
    → IfOk r P → IfOk r Q
IfOk-then (Ok x) P Q follows p = follows x p
IfOk-then (Err e) P Q follows p = p

module _ (inputs : List Contents) where
  -- the dims of nodes
  abbrev pub dims_of_all : List Term → List Shaped
  dims_of_all ts = map (λ t. dims_of widest t inputs) ts

  -- steps that have grown by terms, of nodes
  pub record HaveGrown (old new : List Step) (us ts : List Term) : Type 0 where
    pub terms : terms_in new ≡ terms_in old ++ us
    pub nodes : dims_in new ≡ dims_in old ++ dims_of_all ts

  length-grown : (old new : List Step) (us ts : List Term) → HaveGrown old new us ts
      → length new ≡ length old + length us
  length-grown old new us ts grown =
      omega (
        arith,
        ap length grown.terms,
        length-map new (term_of_step),
        length-map old
            (term_of_step),
        length-append (terms_in old) us,
      )

  grown-both : (old mid new : List Step) (us ts vs ss : List Term) → HaveGrown old mid us ts
      → HaveGrown mid new vs ss
      → HaveGrown old new (us ++ vs) (ts ++ ss)
  grown-both old mid new us ts vs ss first second = record {
    terms = second.terms ∙ ap (λ l. l ++ vs) first.terms ∙ append_assoc (terms_in old) us vs;
    nodes = second.nodes ∙ ap (λ l. l ++ dims_of_all ss) first.nodes
        ∙ append_assoc (dims_in old) (dims_of_all ts) (dims_of_all ss)
        ∙ ap (λ l. dims_in old ++ l) (sym (map-append (λ t. dims_of widest t inputs) ts ss));
  }

  -- what is left of a node, behind its steps
  pub record IsNode (old new : List Step) (c : Cut) (ts : List Term) (t : Term) (rest : Step) :
      Type 0 where
    pub grown : HaveGrown old new c.steps ts
    pub term : term_of_step rest ≡ c.left
    pub dims : dims_of widest t inputs ≡ Ok (dims_of_step rest)

  node-split_off : (is_step : Bool) (old mid new : List Step) (us ts : List Term) (u t : Term)
      (node rest : Step)
      → HaveGrown old mid us ts → term_of_step node ≡ u
      → dims_of widest t inputs ≡ Ok (dims_of_step node) → IsSplitOff inputs is_step node mid new rest
      → IsNode old new (split_off (length inputs + length old) is_step us u) (ts ++ own is_step t) t
      rest
  node-split_off true old mid new us ts u t node rest grown term dims done =
      let count : length inputs + length mid ≡ length inputs + length old + length us =
      omega (arith, length-grown old mid us ts grown) in
      let one : HaveGrown mid new (u ∷ []) (t ∷ []) =
      record {
        terms = ap terms_in done.steps ∙ map-append term_of_step mid (node ∷ [])
            ∙ ap (λ v. terms_in mid ++ v ∷ []) term;
        nodes = ap dims_in done.steps ∙ map-append (λ s. Ok (dims_of_step s)) mid (node ∷ [])
            ∙ ap (λ d. dims_in mid ++ d ∷ []) (sym dims);
      } in
      record {
        grown = grown-both old mid new us ts (u ∷ []) (t ∷ []) grown one;
        term = done.term ∙ ap (λ n. input (number_of n)) count;
        dims = dims ∙ ap Ok (sym done.dims);
      }
  node-split_off false old mid new us ts u t node rest grown term dims done =
      record {
        grown = record {
          terms = ap terms_in done.steps ∙ grown.terms;
          nodes = ap dims_in done.steps ∙ grown.nodes
              ∙ ap (λ l. dims_in old ++ dims_of_all l) (sym (append-nil ts));
        };
        term = done.term ∙ term;
        dims = dims ∙ ap Ok (sym done.dims);
      }

  grown-cut : (whole : Bool) (t : Term) (old new : List Step) (x : Step)
      → IsCut inputs whole t old new x
      → HaveGrown old new (cut (length inputs + length old) whole t).steps (operand_nodes whole t)
  grown-cut whole t old new x done = record { terms = done.terms; nodes = done.nodes }

  node-unary : (whole : Bool) (o : Unary) (a : Term) (old mid new : List Step) (x node rest : Step)
      → IsCut inputs (combines o) a old mid x → term_of_step node ≡ unary o (term_of_step x)
      → dims_of widest (unary o a) inputs ≡ Ok (dims_of_step node)
      → IsSplitOff inputs (whole || combines o) node mid new rest
      → IsCut inputs whole (unary o a) old new rest
  node-unary whole o a old mid new x node rest first term dims done =
      let c : Cut = cut (length inputs + length old) (combines o) a in
      let is : IsNode old new (cut (length inputs + length old) whole (unary o a))
      (operand_nodes whole (unary o a)) (unary o a) rest =
      node-split_off (whole || combines o) old mid new c.steps (operand_nodes (combines o) a)
      (unary o c.left) (unary o a) node rest
      (grown-cut (combines o) a old mid x first) (term ∙ ap (unary o) first.term) dims done in
      record { terms = is.grown.terms; nodes = is.grown.nodes; term = is.term; dims = is.dims }

  -- the next operand, which is cut behind the steps of those before
  next-cut : (whole : Bool) (t : Term) (old mid new : List Step) (us ts : List Term) (x : Step)
      → HaveGrown old mid us ts
      → IsCut inputs whole t mid new x
      → IsNode mid new (cut (length inputs + length old + length us) whole t)
      (operand_nodes whole t) t x
  next-cut whole t old mid new us ts x grown done =
      let count : length inputs + length mid ≡ length inputs + length old + length us =
      omega (arith, length-grown old mid us ts grown) in
      subst (λ n. IsNode mid new (cut n whole t) (operand_nodes whole t) t x) count
      (record { grown = grown-cut whole t mid new x done; term = done.term; dims = done.dims })

  node-binary : (whole : Bool) (o : Binary) (a b : Term) (old mid late new : List Step)
      (x y node rest : Step)
      → IsCut inputs (combines_two o) a old mid x → IsCut inputs (combines_two o) b mid late y
      → term_of_step node ≡ binary o (term_of_step x) (term_of_step y)
      → dims_of widest (binary o a b) inputs ≡ Ok (dims_of_step node)
      → IsSplitOff inputs (whole || combines_two o) node late new rest
      → IsCut inputs whole (binary o a b) old new rest
  node-binary whole o a b old mid late new x y node rest first second term dims done =
      let w : Bool = combines_two o in
      let before : ℕ = length inputs + length old in
      let c : Cut = cut before w a in
      let d : Cut = cut (before + length c.steps) w b in
      let grown = grown-cut w a old mid x first in
      let next = next-cut w b old mid late c.steps (operand_nodes w a) y grown second in
      let both = grown-both old mid late c.steps (operand_nodes w a) d.steps (operand_nodes w b)
      grown next.grown in
      let left : term_of_step node ≡ binary o c.left d.left = term
      ∙ ap (λ v. binary o v (term_of_step y)) first.term ∙ ap (binary o c.left) next.term in
      let is : IsNode old new (cut before whole (binary o a b))
      (operand_nodes whole (binary o a b)) (binary o a b) rest =
      node-split_off (whole || w) old late new (c.steps ++ d.steps)
      (operand_nodes w a ++ operand_nodes w b) (binary o c.left d.left) (binary o a b)
      node rest both left dims done in
      record { terms = is.grown.terms; nodes = is.grown.nodes; term = is.term; dims = is.dims }

  node-ternary : (whole : Bool) (o : Ternary) (a b c : Term) (old mid late last new : List Step)
      (x y z node rest : Step)
      → IsCut inputs false a old mid x → IsCut inputs false b mid late y
      → IsCut inputs false c late last z
      → term_of_step node ≡ ternary o (term_of_step x) (term_of_step y) (term_of_step z)
      → dims_of widest (ternary o a b c) inputs ≡ Ok (dims_of_step node)
      → IsSplitOff inputs whole node last new rest
      → IsCut inputs whole (ternary o a b c) old new rest
  node-ternary whole o a b c old mid late last new x y z node rest first second third term dims
      done =
      let before : ℕ = length inputs + length old in
      let d : Cut = cut before false a in
      let e : Cut = cut (before + length d.steps) false b in
      let f : Cut = cut (before + length d.steps + length e.steps) false c in
      let xs : List Term = operand_nodes false a in
      let ys : List Term = operand_nodes false b in
      let zs : List Term = operand_nodes false c in
      let grown = grown-cut false a old mid x first in
      let next = next-cut false b old mid late d.steps xs y grown second in
      let two = grown-both old mid late d.steps xs e.steps ys grown next.grown in
      let long : before + length (d.steps ++ e.steps) ≡ before + length d.steps + length e.steps =
      omega (arith, length-append d.steps e.steps) in
      let after = subst (λ n. IsNode late last (cut n false c) zs c z) long
      (next-cut false c old late last (d.steps ++ e.steps) (xs ++ ys) z two third) in
      let three = grown-both old late last (d.steps ++ e.steps) (xs ++ ys) f.steps zs two
      after.grown in
      let left : term_of_step node ≡ ternary o d.left e.left f.left =
      term ∙ ap (λ v. ternary o v (term_of_step y) (term_of_step z)) first.term
      ∙ ap (λ v. ternary o d.left v (term_of_step z)) next.term
      ∙ ap (ternary o d.left e.left) after.term in
      let is : IsNode old new (cut before whole (ternary o a b c))
      (operand_nodes whole (ternary o a b c)) (ternary o a b c) rest =
      node-split_off whole old last new (d.steps ++ e.steps ++ f.steps) (xs ++ ys ++ zs)
      (ternary o d.left e.left f.left) (ternary o a b c)
      node rest three left dims done in
      record { terms = is.grown.terms; nodes = is.grown.nodes; term = is.term; dims = is.dims }

  -- the walk at a node, `w` telling whether its operation combines
  pub cut-unary : (whole w : Bool) (o : Unary) (a t u : Term) (old mid new : List Step)
      (x node rest : Step) → unary o a ≡ t → w ≡ combines o
      → IsCut inputs w a old mid x → term_of_step node ≡ unary o u → u ≡ term_of_step x
      → dims_of widest t inputs ≡ Ok (dims_of_step node)
      → IsSplitOff inputs (whole || w) node mid new rest → IsCut inputs whole t old new rest
  cut-unary whole w o a t u old mid new x node rest is_t is_w first term is_u dims done =
      subst (λ r. IsCut inputs whole r old new rest) is_t
      (node-unary whole o a old mid new x node rest
      (subst (λ b. IsCut inputs b a old mid x) is_w first)
      (term ∙ ap (unary o) is_u) (ap (λ r. dims_of widest r inputs) is_t ∙ dims)
      (subst (λ b. IsSplitOff inputs (whole || b) node mid new rest) is_w done))

  pub cut-binary : (whole w : Bool) (o : Binary) (a b t u v : Term) (old mid late new : List Step)
      (x y node rest : Step) → binary o a b ≡ t
      → w ≡ combines_two o → IsCut inputs w a old mid x → IsCut inputs w b mid late y
      → term_of_step node ≡ binary o u v → u ≡ term_of_step x → v ≡ term_of_step y
      → dims_of widest t inputs ≡ Ok (dims_of_step node)
      → IsSplitOff inputs (whole || w) node late new rest → IsCut inputs whole t old new rest
  cut-binary whole w o a b t u v old mid late new x y node rest is_t is_w first second term is_u
      is_v dims done =
      subst (λ r. IsCut inputs whole r old new rest) is_t
      (node-binary whole o a b old mid late new x y node rest
      (subst (λ c. IsCut inputs c a old mid x) is_w first)
      (subst (λ c. IsCut inputs c b mid late y) is_w second)
      (term ∙ ap (λ r. binary o r v) is_u ∙ ap (binary o (term_of_step x)) is_v)
      (ap (λ r. dims_of widest r inputs) is_t ∙ dims)
      (subst (λ c. IsSplitOff inputs (whole || c) node late new rest) is_w done))

  pub cut-ternary : (whole : Bool) (o : Ternary) (a b c t u v w : Term)
      (old mid late last new : List Step) (x y z node rest : Step)
      → ternary o a b c ≡ t → IsCut inputs false a old mid x → IsCut inputs false b mid late y
      → IsCut inputs false c late last z
      → term_of_step node ≡ ternary o u v w → u ≡ term_of_step x → v ≡ term_of_step y
      → w ≡ term_of_step z
      → dims_of widest t inputs ≡ Ok (dims_of_step node) → IsSplitOff inputs whole node last new rest
      → IsCut inputs whole t old new rest
  cut-ternary whole o a b c t u v w old mid late last new x y z node rest is_t first second third
      term is_u is_v is_w dims done =
      let same : ternary o u v w ≡ ternary o (term_of_step x) (term_of_step y) (term_of_step z) =
      (cc) in
      subst (λ r. IsCut inputs whole r old new rest) is_t
      (node-ternary whole o a b c old mid late last new x y z node rest first second third
      (term ∙ same)
      (ap (λ r. dims_of widest r inputs) is_t ∙ dims) done)
