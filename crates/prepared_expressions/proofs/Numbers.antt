-- What a head says, and only that.
use Rattle.std.proofs.Common.{◌≡◌, ℕ, List, [], ◌∷◌, ◌++◌, length, refl, arith}
use Rattle.tensor_terms.specs.Term.{Term, input, unary, binary, ternary, select}
use Rattle.prepared_expressions.specs.declared.kind.Kind.{Kind}
use Rattle.prepared_expressions.specs.declared.kind.Kind.TheVariants.{Input, One, Two, Select}
use Rattle.prepared_expressions.specs.Numbers.{number_of, headed}
use Rattle.prepared_expressions.specs.Recorded.{recorded, unary_kind, binary_kind, unary_numbers, binary_numbers}

-- two kinds have two numbers
pub number_of_injective : (k l : Kind) → number_of k ≡ number_of l → k ≡ l
number_of_injective k l same = grind (arith, same)

-- lists of one length before others
pub append_injective : (xs ys ss ts : List ℕ) → length xs ≡ length ys → xs ++ ss ≡ ys ++ ts → (xs ≡ ys) × (ss ≡ ts)
append_injective [] [] ss ts long same = (refl, same)
append_injective [] (y ∷ ys) ss ts long same = absurd (omega arith)
append_injective (x ∷ xs) [] ss ts long same = absurd (omega arith)
append_injective (x ∷ xs) (y ∷ ys) ss ts long same =
    let first : x ≡ y = cc in
    let others : xs ++ ss ≡ ys ++ ts = cc in
    let p = append_injective xs ys ss ts (omega arith) others in
    (rw (first, p.0) refl, p.1)

-- a kind, arguments and the rest, each the same in two heads
pub record Same (k l : Kind) (xs ys ss ts : List ℕ) : Type 0 where
  pub kind : k ≡ l
  pub arguments : xs ≡ ys
  pub rest : ss ≡ ts

pub headed-same : (k l : Kind) (xs ys ss ts : List ℕ) → headed (number_of k) xs ss ≡ headed (number_of l) ys ts → Same k l xs ys ss ts
headed-same k l xs ys ss ts same =
    let number : number_of k ≡ number_of l = cc in
    let long : length xs ≡ length ys = cc in
    let behind : xs ++ ss ≡ ys ++ ts = cc in
    let p = append_injective xs ys ss ts long behind in
    record { kind = number_of_injective k l number; arguments = p.0; rest = p.1 }

-- what the numbers of a term say of the head that stands there
abbrev pub IsHead : Kind → List ℕ → List ℕ → Term → List ℕ → Type 0
IsHead k args behind (input n) rest = Same k Input args (n ∷ []) behind rest
IsHead k args behind (unary o a) rest =
    Same k (One (unary_kind o)) args (unary_numbers o) behind (recorded a rest)
IsHead k args behind (binary o a b) rest =
    Same k (Two (binary_kind o)) args (binary_numbers o) behind (recorded a (recorded b rest))
IsHead k args behind (ternary select a b c) rest =
    Same k Select args [] behind (recorded a (recorded b (recorded c rest)))

pub recorded-head : (k : Kind) (args behind : List ℕ) (t : Term) (rest : List ℕ) → headed (number_of k) args behind ≡ recorded t rest → IsHead k args behind t rest
recorded-head k args behind (input n) rest same = headed-same k Input args (n ∷ []) behind rest same
recorded-head k args behind (unary o a) rest same =
    headed-same k (One (unary_kind o)) args (unary_numbers o) behind (recorded a rest) same
recorded-head k args behind (binary o a b) rest same =
    headed-same k (Two (binary_kind o)) args (binary_numbers o) behind (recorded a (recorded b rest)) same
recorded-head k args behind (ternary select a b c) rest same =
    headed-same k Select args [] behind (recorded a (recorded b (recorded c rest))) same
