-- The operation that a kind and the numbers of its arguments make, if they make one.
use Rattle.std.specs.Prelude.{◌≡◌, ◌⊎◌, ℕ, zero, suc, List, [], ◌∷◌, length, take, drop, Bool}
use Rattle.std.specs.Prelude.{true, false, nat_le, nat_lt}
use Rattle.std.specs.Prelude.{Option, Some, None, option_map, option_and_then, if◌then◌else◌}
use Rattle.std.specs.Prelude.{Result, MatchResult}
use Rattle.std.specs.Int.{w64, cast_signed}
use Rattle.tensor_terms.specs.Term.{Term, input}
use Rattle.tensor_terms.specs.Term.{Unary, each, constant, movement, pad, reduce, along}
use Rattle.tensor_terms.specs.Term.{broadcast, slice, shuffle, reshape, chip, reverse}
use Rattle.tensor_terms.specs.Term.{stride}
use Rattle.tensor_terms.specs.Term.{Binary, pairwise, concat, contract, convolve, taking}
use Rattle.prepared_expressions.specs.declared.kind.UnaryKind.{UnaryKind}
use Rattle.prepared_expressions.specs.declared.kind.UnaryKind.TheVariants.{Each, Constant}
use Rattle.prepared_expressions.specs.declared.kind.UnaryKind.TheVariants.{Broadcast, Slice}
use Rattle.prepared_expressions.specs.declared.kind.UnaryKind.TheVariants.{Shuffle}
use Rattle.prepared_expressions.specs.declared.kind.UnaryKind.TheVariants.{Reshape, Chip, Reverse}
use Rattle.prepared_expressions.specs.declared.kind.UnaryKind.TheVariants.{Stride, Pad, Reduce, Along}
use Rattle.prepared_expressions.specs.declared.kind.BinaryKind.{BinaryKind}
use Rattle.prepared_expressions.specs.declared.kind.BinaryKind.TheVariants.{Pairwise, Concat}
use Rattle.prepared_expressions.specs.declared.kind.BinaryKind.TheVariants.{Contract, Convolve, Take}
use Rattle.prepared_expressions.specs.declared.refusal.Refusal.{Refusal}
use Rattle.prepared_expressions.specs.declared.refusal.Refusal.TheVariants.{NoMemory, NoRecord}

-- the code returns what was made, as `shows` sees it, or `NoRecord` if nothing was made, or
-- `NoMemory`
abbrev pub IsMadeOr : {A B : Type 0} → (A → B) → Option B → Result A Refusal → Type 0
IsMadeOr shows made r =
    MatchResult r (λ x. made ≡ Some (shows x))
    (λ f. (f ≡ NoMemory) ⊎ ((f ≡ NoRecord) × (made ≡ None)))

-- x, if there are no numbers
abbrev pub of_none : {A : Type 0} → A → List ℕ → Option A
of_none x [] = Some x
of_none x (n ∷ ns) = None

-- the number, if there is exactly one
abbrev pub one_in : List ℕ → Option ℕ
one_in [] = None
one_in (n ∷ []) = Some n
one_in (n ∷ m ∷ ns) = None

-- the two numbers, if there are exactly two
abbrev pub two_in : List ℕ → Option (ℕ × ℕ)
two_in [] = None
two_in (n ∷ []) = None
two_in (n ∷ m ∷ []) = Some (n, m)
two_in (n ∷ m ∷ k ∷ ns) = None

-- two lists: the first number is the length of the first list
abbrev pub lists_in : List ℕ → Option (List ℕ × List ℕ)
lists_in [] = None
lists_in (n ∷ ns) = if nat_le n (length ns) then Some (take n ns, drop n ns) else None

-- an element and the rest, if there are both
abbrev pub cons_of : {A : Type 0} → Option A → Option (List A) → Option (List A)
cons_of None rest = None
cons_of (Some x) None = None
cons_of (Some x) (Some xs) = Some (x ∷ xs)

-- the flag that a number is
abbrev pub flag_in : ℕ → Option Bool
flag_in zero = Some false
flag_in (suc zero) = Some true
flag_in (suc (suc n)) = None

-- the flags that numbers are
abbrev pub flags_in : List ℕ → Option (List Bool)
flags_in [] = Some []
flags_in (n ∷ ns) = cons_of (flag_in n) (flags_in ns)

-- the pairs that numbers are, one pair after the other
abbrev pub pairs_in : List ℕ → Option (List (ℕ × ℕ))
pairs_in [] = Some []
pairs_in (n ∷ []) = None
pairs_in (n ∷ m ∷ ns) = cons_of (Some (n, m)) (pairs_in ns)

-- the operation on one operand that a kind and numbers make
abbrev pub unary_from : UnaryKind → List ℕ → Option Unary
unary_from (Each o) ns = of_none (each o) ns
unary_from Constant ns = option_map (λ v. constant (cast_signed w64 v)) (one_in ns)
unary_from Broadcast ns = Some (movement (broadcast ns))
unary_from Slice ns = option_map (λ p. movement (slice p.0 p.1)) (lists_in ns)
unary_from Shuffle ns = Some (movement (shuffle ns))
unary_from Reshape ns = Some (movement (reshape ns))
unary_from Chip ns = option_map (λ p. movement (chip p.0 p.1)) (two_in ns)
unary_from Reverse ns = option_map (λ flags. movement (reverse flags)) (flags_in ns)
unary_from Stride ns = Some (movement (stride ns))
unary_from Pad ns = option_map pad (pairs_in ns)
unary_from (Reduce r) ns = Some (reduce r ns)
unary_from (Along o) ns = option_map (λ axis. along o axis) (one_in ns)

-- the operation on two operands that a kind and numbers make
abbrev pub binary_from : BinaryKind → List ℕ → Option Binary
binary_from (Pairwise o) ns = of_none (pairwise o) ns
binary_from Concat ns = option_map concat (one_in ns)
binary_from Contract ns = option_map contract (pairs_in ns)
binary_from Convolve ns = Some (convolve ns)
binary_from Take ns = option_map taking (one_in ns)

-- the input that a number makes, if it is below the number of inputs
abbrev pub input_from : ℕ → List ℕ → Option Term
input_from inputs ns =
    option_and_then (λ n. if nat_lt n inputs then Some (input n) else None) (one_in ns)
