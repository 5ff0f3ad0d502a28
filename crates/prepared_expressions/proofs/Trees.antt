-- One node of what numbers record, over its operands.
use Rattle.std.proofs.Common.{◌≡◌, ◌≢◌, ◌&&◌, ℕ, ◌-◌, ◌≤◌, ◌⊎◌, inl, inr, List, [], ◌∷◌, get_or, Fits, IsTrue}
use Rattle.std.specs.Int.{w64}
use Rattle.std.proofs.lemmas.Bool.{and_parts, and_from}
use Rattle.std.proofs.Common.{Option, Some, None, option_map, Result, refl, ap, sym, ◌∙◌, subst, arith}
use Rattle.tensor_terms.specs.Term.{Term, input, unary, binary, ternary, Unary, Binary, select, has_inputs}
use Rattle.prepared_expressions.specs.declared.kind.UnaryKind.{UnaryKind}
use Rattle.prepared_expressions.specs.declared.kind.BinaryKind.{BinaryKind}
use Rattle.prepared_expressions.specs.declared.kind.Kind.{Kind}
use Rattle.prepared_expressions.specs.declared.kind.Kind.TheVariants.{Input, One, Two, Select}
use Rattle.prepared_expressions.specs.declared.refusal.Refusal.{Refusal}
use Rattle.prepared_expressions.specs.declared.refusal.Refusal.TheVariants.{NoMemory, NoRecord}
use Rattle.prepared_expressions.specs.declared.tree.Read.{Read}
use Rattle.prepared_expressions.specs.private.Made.{unary_from, binary_from, of_none, input_from}
use Rattle.prepared_expressions.specs.Numbers.{number_of, headed}
use Rattle.prepared_expressions.specs.Recorded.{recorded, unary_kind, unary_numbers, binary_kind, binary_numbers, height_of, HasRanges}
use Rattle.prepared_expressions.specs.private.Told.{IsTold, IsToldOf}
use Rattle.prepared_expressions.proofs.Made.{Fit, unary_from-numbers, binary_from-numbers, unary_from-back, binary_from-back, of_none-back, option_map-some}
use Rattle.prepared_expressions.proofs.Numbers.{recorded-head}

-- where a node stands, what it has and what is below it decides what is told
module _ (args behind numbers : List ℕ) (inputs height : ℕ) (r : Result Read Refusal) where
  pub told-input : numbers ≡ headed (number_of Input) args behind
      → ((n : ℕ) (rest : List ℕ) → args ≡ n ∷ [] → behind ≡ rest → IsTrue (has_inputs (input n) inputs) → IsTold r (input n) rest)
      → IsToldOf numbers inputs height r
  told-input head says (input n) rest is has ranges high =
      let h = recorded-head Input args behind (input n) rest (sym head ∙ is) in
      says n rest h.arguments h.rest has
  told-input head says (unary o a) rest is has ranges high =
      let h = recorded-head Input args behind (unary o a) rest (sym head ∙ is) in let e = h.kind in absurd (cc)
  told-input head says (binary o a b) rest is has ranges high =
      let h = recorded-head Input args behind (binary o a b) rest (sym head ∙ is) in let e = h.kind in absurd (cc)
  told-input head says (ternary select a b c) rest is has ranges high =
      let h = recorded-head Input args behind (ternary select a b c) rest (sym head ∙ is) in let e = h.kind in absurd (cc)

  pub told-one : (k : UnaryKind) → numbers ≡ headed (number_of (One k)) args behind
      → ((o : Unary) (a : Term) (rest : List ℕ) → unary_from k args ≡ Some o → behind ≡ recorded a rest
      → IsTrue (has_inputs a inputs) → HasRanges a → height_of a ≤ height - 1 → IsTold r (unary o a) rest)
      → IsToldOf numbers inputs height r
  told-one k head says (input n) rest is has ranges high =
      let h = recorded-head (One k) args behind (input n) rest (sym head ∙ is) in let e = h.kind in absurd (cc)
  told-one k head says (unary o a) rest is has ranges high =
      let h = recorded-head (One k) args behind (unary o a) rest (sym head ∙ is) in
      let e = h.kind in
      let kind : k ≡ unary_kind o = cc in
      says o a rest (rw (kind, h.arguments) (unary_from-numbers o ranges.0)) h.rest has ranges.1 (omega arith)
  told-one k head says (binary o a b) rest is has ranges high =
      let h = recorded-head (One k) args behind (binary o a b) rest (sym head ∙ is) in let e = h.kind in absurd (cc)
  told-one k head says (ternary select a b c) rest is has ranges high =
      let h = recorded-head (One k) args behind (ternary select a b c) rest (sym head ∙ is) in let e = h.kind in absurd (cc)

  pub told-two : (k : BinaryKind) → numbers ≡ headed (number_of (Two k)) args behind
      → ((o : Binary) (a b : Term) (rest : List ℕ) → binary_from k args ≡ Some o → behind ≡ recorded a (recorded b rest)
      → IsTrue (has_inputs a inputs) → IsTrue (has_inputs b inputs) → HasRanges a → HasRanges b
      → height_of a ≤ height - 1 → height_of b ≤ height - 1 → IsTold r (binary o a b) rest)
      → IsToldOf numbers inputs height r
  told-two k head says (input n) rest is has ranges high =
      let h = recorded-head (Two k) args behind (input n) rest (sym head ∙ is) in let e = h.kind in absurd (cc)
  told-two k head says (unary o a) rest is has ranges high =
      let h = recorded-head (Two k) args behind (unary o a) rest (sym head ∙ is) in let e = h.kind in absurd (cc)
  told-two k head says (binary o a b) rest is has ranges high =
      let h = recorded-head (Two k) args behind (binary o a b) rest (sym head ∙ is) in
      let e = h.kind in
      let kind : k ≡ binary_kind o = cc in
      let both = and_parts (has_inputs a inputs) (has_inputs b inputs) has in
      says o a b rest (rw (kind, h.arguments) (binary_from-numbers o)) h.rest both.0 both.1 ranges.0 ranges.1 (omega arith) (omega arith)
  told-two k head says (ternary select a b c) rest is has ranges high =
      let h = recorded-head (Two k) args behind (ternary select a b c) rest (sym head ∙ is) in let e = h.kind in absurd (cc)

  pub told-three : numbers ≡ headed (number_of Select) args behind
      → ((a b c : Term) (rest : List ℕ) → args ≡ [] → behind ≡ recorded a (recorded b (recorded c rest))
      → IsTrue (has_inputs a inputs) → IsTrue (has_inputs b inputs) → IsTrue (has_inputs c inputs)
      → HasRanges a → HasRanges b → HasRanges c
      → height_of a ≤ height - 1 → height_of b ≤ height - 1 → height_of c ≤ height - 1 → IsTold r (ternary select a b c) rest)
      → IsToldOf numbers inputs height r
  told-three head says (input n) rest is has ranges high =
      let h = recorded-head Select args behind (input n) rest (sym head ∙ is) in let e = h.kind in absurd (cc)
  told-three head says (unary o a) rest is has ranges high =
      let h = recorded-head Select args behind (unary o a) rest (sym head ∙ is) in let e = h.kind in absurd (cc)
  told-three head says (binary o a b) rest is has ranges high =
      let h = recorded-head Select args behind (binary o a b) rest (sym head ∙ is) in let e = h.kind in absurd (cc)
  told-three head says (ternary select a b c) rest is has ranges high =
      let h = recorded-head Select args behind (ternary select a b c) rest (sym head ∙ is) in
      let all = and_parts (has_inputs a inputs) (has_inputs b inputs && has_inputs c inputs) has in
      let both = and_parts (has_inputs b inputs) (has_inputs c inputs) all.1 in
      says a b c rest h.arguments h.rest all.0 both.0 both.1 ranges.0 ranges.1 ranges.2 (omega arith) (omega arith) (omega arith)

-- every term has a node at least
pub height_of-pos : (t : Term) → height_of t ≢ 0
height_of-pos (input n) = λ none. omega arith
height_of-pos (unary o a) = λ none. omega arith
height_of-pos (binary o a b) = λ none. omega arith
height_of-pos (ternary select a b c) = λ none. omega arith

-- where no head can be read, no term is recorded
pub told-none : (numbers : List ℕ) (inputs height : ℕ) (r : Result Read Refusal)
    → ((k : Kind) (args behind : List ℕ) → numbers ≢ headed (number_of k) args behind) → IsToldOf numbers inputs height r
told-none numbers inputs height r none (input n) rest is has ranges high = absurd (none Input (n ∷ []) rest is)
told-none numbers inputs height r none (unary o a) rest is has ranges high =
    absurd (none (One (unary_kind o)) (unary_numbers o) (recorded a rest) is)
told-none numbers inputs height r none (binary o a b) rest is has ranges high =
    absurd (none (Two (binary_kind o)) (binary_numbers o) (recorded a (recorded b rest)) is)
told-none numbers inputs height r none (ternary select a b c) rest is has ranges high =
    absurd (none Select [] (recorded a (recorded b (recorded c rest))) is)

-- what can be made and is not lacks memory
pub only-memory : {A : Type 0} (f : Refusal) (x : Option A) (y : A) → x ≡ Some y → (f ≡ NoMemory) ⊎ ((f ≡ NoRecord) × (x ≡ None)) → f ≡ NoMemory
only-memory f x y is refused = elim refused [ inl memory ↦ memory | inr none ↦ let e = none.1 in absurd (cc) ]

-- an operation that was made over operands is the only one
pub made-one : (o : Unary) (k : UnaryKind) (args : List ℕ) (a t u : Term)
    → unary_from k args ≡ Some o → option_map (λ o. unary o a) (unary_from k args) ≡ Some t → a ≡ u → t ≡ unary o u
made-one o k args a t u is made same =
    let m : Some (unary o a) ≡ Some t = rw is at made in let e : unary o a ≡ t = cc in sym e ∙ ap (unary o) same

pub made-two : (o : Binary) (k : BinaryKind) (args : List ℕ) (a b t u v : Term)
    → binary_from k args ≡ Some o → option_map (λ o. binary o a b) (binary_from k args) ≡ Some t → a ≡ u → b ≡ v → t ≡ binary o u v
made-two o k args a b t u v is made same as_well =
    let m : Some (binary o a b) ≡ Some t = rw is at made in let e : binary o a b ≡ t = cc in rw (same, as_well) at (sym e)

-- what was made over what stands behind is recorded
pub recorded-one : (k : UnaryKind) (args behind numbers rest : List ℕ) (a t : Term) (inputs : ℕ) → Fit args
    → numbers ≡ headed (number_of (One k)) args behind → behind ≡ recorded a rest → IsTrue (has_inputs a inputs)
    → option_map (λ o. unary o a) (unary_from k args) ≡ Some t → (numbers ≡ recorded t rest) × IsTrue (has_inputs t inputs)
recorded-one k args behind numbers rest a t inputs fit head is has made =
    option_map-some (λ t. (numbers ≡ recorded t rest) × IsTrue (has_inputs t inputs)) (λ o. unary o a) (unary_from k args) t made
    (λ o found.
    let p = unary_from-back k args o fit found in (
      head ∙ ap (headed (number_of (One k)) args) is
          ∙ ap (λ k. headed (number_of (One k)) args (recorded a rest)) (sym p.0)
          ∙ ap (λ ns. headed (number_of (One (unary_kind o))) ns (recorded a rest)) (sym p.1),
      has,
    ))

pub recorded-two : (k : BinaryKind) (args behind numbers middle rest : List ℕ) (a b t : Term) (inputs : ℕ)
    → numbers ≡ headed (number_of (Two k)) args behind → behind ≡ recorded a middle → middle ≡ recorded b rest
    → IsTrue (has_inputs a inputs) → IsTrue (has_inputs b inputs)
    → option_map (λ o. binary o a b) (binary_from k args) ≡ Some t → (numbers ≡ recorded t rest) × IsTrue (has_inputs t inputs)
recorded-two k args behind numbers middle rest a b t inputs head is next has has_too made =
    option_map-some (λ t. (numbers ≡ recorded t rest) × IsTrue (has_inputs t inputs)) (λ o. binary o a b) (binary_from k args) t made
    (λ o found.
    let p = binary_from-back k args o found in (
      head ∙ ap (headed (number_of (Two k)) args) (is ∙ ap (recorded a) next)
          ∙ ap (λ k. headed (number_of (Two k)) args (recorded a (recorded b rest))) (sym p.0)
          ∙ ap (λ ns. headed (number_of (Two (binary_kind o))) ns (recorded a (recorded b rest))) (sym p.1),
      and_from (has_inputs a inputs) (has_inputs b inputs) has has_too,
    ))

pub recorded-three : (args behind numbers second third rest : List ℕ) (a b c t : Term) (inputs : ℕ)
    → numbers ≡ headed (number_of Select) args behind → behind ≡ recorded a second → second ≡ recorded b third → third ≡ recorded c rest
    → IsTrue (has_inputs a inputs) → IsTrue (has_inputs b inputs) → IsTrue (has_inputs c inputs)
    → of_none (ternary select a b c) args ≡ Some t → (numbers ≡ recorded t rest) × IsTrue (has_inputs t inputs)
recorded-three args behind numbers second third rest a b c t inputs head is next last has has_too has_last made =
    let p = of_none-back (ternary select a b c) t args made in
    subst (λ t. (numbers ≡ recorded t rest) × IsTrue (has_inputs t inputs)) p.0 (
      head ∙ ap (λ ns. headed (number_of Select) ns behind) p.1
          ∙ ap (headed (number_of Select) []) (is ∙ ap (recorded a) (next ∙ ap (recorded b) last)),
      and_from (has_inputs a inputs) (has_inputs b inputs && has_inputs c inputs) has
          (and_from (has_inputs b inputs) (has_inputs c inputs) has_too has_last),
    )

-- the input of a number, and the choice
pub made-input : (inputs n : ℕ) (args : List ℕ) → args ≡ n ∷ [] → IsTrue (has_inputs (input n) inputs) → input_from inputs args ≡ Some (input n)
made-input inputs n args is has = rw (is, has) refl

pub made-three : (args : List ℕ) (a b c t u v w : Term) → args ≡ []
    → of_none (ternary select a b c) args ≡ Some t → a ≡ u → b ≡ v → c ≡ w → t ≡ ternary select u v w
made-three args a b c t u v w is made first second third =
    let p = of_none-back (ternary select a b c) t args made in rw (first, second, third) at (sym p.0)

-- the first argument of a head is below 2 ^ 64
pub Fit-headed : (k : Kind) (args behind numbers : List ℕ) → ((i : ℕ) → Fits w64 (get_or numbers i 0))
    → numbers ≡ headed (number_of k) args behind → Fit args
Fit-headed k [] behind numbers fit is = omega arith
Fit-headed k (n ∷ ns) behind numbers fit is =
    let small : Fits w64 n = subst (λ l. Fits w64 (get_or l 2 0)) is (fit 2) in omega arith
