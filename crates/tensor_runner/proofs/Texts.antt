-- Compact JSON of numbers.
use Rattle.std.proofs.Common.{◌≡◌, ◌<◌, ℕ, ℤ, pos, negsuc, List, [], ◌∷◌, ◌++◌, length, true, false, refl, ap, ◌∙◌, append_assoc}
use Rattle.std.proofs.Common.{arith}
use Rattle.std.specs.Fmt.{signed_decimal}
use Rattle.serde_json.specs.Written.{compact_text, items_text, items_have_float}
use Rattle.serde_json.specs.Data.{array}
use Rattle.tensor_runner.specs.Answer.{numbers_text}
use Rattle.tensor_runner.specs.Line.{bracketed, integer, integers}

pub compact_text-integer : (x : ℤ) → compact_text (integer x) ≡ signed_decimal x
compact_text-integer (pos n) = refl
compact_text-integer (negsuc n) = refl

-- items behind others: a comma stands before the first
items_text-more : (x : ℤ) (xs : List ℤ) → items_text true (integers (x ∷ xs)) ≡ 44 ∷ (numbers_text (x ∷ xs) ++ 93 ∷ [])
items_text-more x [] = ap (λ t. 44 ∷ (t ++ 93 ∷ [])) (compact_text-integer x)
items_text-more x (y ∷ ys) =
    rw (compact_text-integer x, items_text-more y ys) (simp append_assoc)

-- the items of an array, with its closing bracket
pub items_text-integers : (xs : List ℤ) → items_text false (integers xs) ≡ numbers_text xs ++ 93 ∷ []
items_text-integers [] = refl
items_text-integers (x ∷ []) = ap (λ t. t ++ 93 ∷ []) (compact_text-integer x)
items_text-integers (x ∷ y ∷ ys) = rw (compact_text-integer x, items_text-more y ys) (simp append_assoc)

-- no integer is a float
pub items_have_float-integers : (xs : List ℤ) → items_have_float (integers xs) ≡ false
items_have_float-integers [] = refl
items_have_float-integers (pos n ∷ xs) = items_have_float-integers xs
items_have_float-integers (negsuc n ∷ xs) = items_have_float-integers xs

-- the text of an array
pub compact_text-integers : (xs : List ℤ) → compact_text (array (integers xs)) ≡ bracketed xs
compact_text-integers xs = ap (λ t. 91 ∷ t) (items_text-integers xs)

-- numbers behind others
pub numbers_text-append : (xs ys : List ℤ) → 0 < length xs → 0 < length ys
    → numbers_text xs ++ 44 ∷ numbers_text ys ≡ numbers_text (xs ++ ys)
numbers_text-append [] ys some more = absurd (omega arith)
numbers_text-append (x ∷ []) [] some more = absurd (omega arith)
numbers_text-append (x ∷ []) (y ∷ ys) some more = refl
numbers_text-append (x ∷ z ∷ xs) ys some more =
    append_assoc (signed_decimal x) _ _ ∙ ap (λ t. signed_decimal x ++ 44 ∷ t) (numbers_text-append (z ∷ xs) ys (omega arith) more)

-- a comma and numbers behind the numbers of a line
pub numbers_text-behind : (line : List ℕ) (xs ys : List ℤ) → 0 < length xs → 0 < length ys
    → ((line ++ numbers_text xs) ++ 44 ∷ []) ++ numbers_text ys ≡ line ++ numbers_text (xs ++ ys)
numbers_text-behind line xs ys some more =
    append_assoc (line ++ numbers_text xs) (44 ∷ []) (numbers_text ys)
    ∙ append_assoc line (numbers_text xs) (44 ∷ numbers_text ys)
    ∙ ap (λ t. line ++ t) (numbers_text-append xs ys some more)
