-- Sums of products, and the code that wraps at each of them.
use Rattle.std.proofs.Common.{◌≡◌, ℕ, zero, suc, ◌+◌, ◌<◌, ℤ, pos, ◌+ℤ◌, refl, ap, sym, ◌∙◌, add-one}
use Rattle.std.proofs.Common.{arith}
use Rattle.std.proofs.lemmas.Int.{int_wrap-add_left, ints}
use Rattle.std.proofs.Math.IntN.{+ℤ_assoc, +ℤ_idl}
use Rattle.std.specs.Int.{w64}
use Rattle.tensor_dots.specs.Products.{sum_to}
use Rattle.tensor_shape.specs.Wrap.{wrap}

-- sums of the same numbers are the same
pub sum_to-ext : (f g : ℕ → ℤ) (n : ℕ) → ((q : ℕ) → q < n → f q ≡ g q) → sum_to f n ≡ sum_to g n
sum_to-ext f g zero same = refl
sum_to-ext f g (suc n) same =
    let here : f n ≡ g n = same n (omega arith) in
    let before : sum_to f n ≡ sum_to g n = sum_to-ext f g n (λ q h. same q (omega arith)) in
    cc

-- a sum is that of its first terms and that of the rest
pub sum_to-append : (f : ℕ → ℤ) (n m : ℕ)
    → sum_to f (n + m) ≡ sum_to f n +ℤ sum_to (λ t. f (n + t)) m
sum_to-append f n zero =
    let none : n + zero ≡ n = omega arith in
    ap (sum_to f) none ∙ omega (arith, ints)
sum_to-append f n (suc m) =
    let next : n + suc m ≡ suc (n + m) = omega arith in
    ap (sum_to f) next
    ∙ ap (λ s. s +ℤ f (n + m)) (sum_to-append f n m)
    ∙ +ℤ_assoc (sum_to f n) (sum_to (λ t. f (n + t)) m) (f (n + m))

-- to wrap at each step gives the wrap of the unbounded sum, whatever it began with: one step more
pub wrap-next_from : (z : ℤ) (f : ℕ → ℤ) (n : ℕ) (s r : ℤ) → s ≡ wrap (z +ℤ sum_to f n)
    → r ≡ wrap (s +ℤ f n) → r ≡ wrap (z +ℤ sum_to f (n + 1))
wrap-next_from z f n s r so_far next =
    rw (add-one n)
    (next
    ∙ ap (λ t. wrap (t +ℤ f n)) so_far
    ∙ int_wrap-add_left w64 (z +ℤ sum_to f n) (f n)
    ∙ ap wrap (+ℤ_assoc z (sum_to f n) (f n)))

-- and where it began with none
pub wrap-next : (f : ℕ → ℤ) (n : ℕ) (s r : ℤ) → s ≡ wrap (sum_to f n) → r ≡ wrap (s +ℤ f n)
    → r ≡ wrap (sum_to f (n + 1))
wrap-next f n s r so_far next =
    let none = λ (k : ℕ). ap wrap (+ℤ_idl (sum_to f k)) in
    wrap-next_from (pos 0) f n s r (so_far ∙ sym (none n)) next ∙ none (n + 1)
