-- Numbers that are the same modulo 2^64.
use Rattle.std.proofs.Common.{◌≡◌, ℕ, zero, suc, ◌<◌, ℤ, ◌+ℤ◌, ◌-ℤ◌, ◌*ℤ◌, neg_ℤ}
use Rattle.std.proofs.Common.{refl, ap, sym, ◌∙◌, arith}
use Rattle.std.proofs.Math.IntN.{+ℤ_comm, *ℤ_comm}
use Rattle.std.proofs.lemmas.Int.{int_wrap-add_same, int_wrap-sub_right, int_wrap-mul_left}
use Rattle.std.proofs.lemmas.Int.{int_wrap_fits, SFits-int_wrap, int_wrap-add_left}
use Rattle.std.specs.Int.{w64}
use Rattle.tensor_shape.specs.Wrap.{wrap}
use Rattle.tensor_dots.specs.Products.{dot}

-- to wrap once more changes nothing
pub wrap-wrap : (z : ℤ) → wrap (wrap z) ≡ wrap z
wrap-wrap z = int_wrap_fits w64 (wrap z) (SFits-int_wrap w64 z)

-- sums, differences and products of the same numbers are the same
pub same-add : (x x' y y' : ℤ) → wrap x ≡ wrap x' → wrap y ≡ wrap y'
    → wrap (x +ℤ y) ≡ wrap (x' +ℤ y')
same-add x x' y y' left right =
    int_wrap-add_same w64 x x' y left
    ∙ ap wrap (+ℤ_comm x' y)
    ∙ int_wrap-add_same w64 y y' x' right
    ∙ ap wrap (+ℤ_comm y' x')

pub same-sub : (x x' y y' : ℤ) → wrap x ≡ wrap x' → wrap y ≡ wrap y'
    → wrap (x -ℤ y) ≡ wrap (x' -ℤ y')
same-sub x x' y y' left right =
    int_wrap-add_same w64 x x' (neg_ℤ y) left
    ∙ sym (int_wrap-sub_right w64 x' y)
    ∙ ap (λ y. wrap (x' -ℤ y)) right
    ∙ int_wrap-sub_right w64 x' y'

pub same-mul : (x x' y y' : ℤ) → wrap x ≡ wrap x' → wrap y ≡ wrap y'
    → wrap (x *ℤ y) ≡ wrap (x' *ℤ y')
same-mul x x' y y' left right =
    sym (int_wrap-mul_left w64 x y)
    ∙ ap (λ x. wrap (x *ℤ y)) left
    ∙ int_wrap-mul_left w64 x' y
    ∙ ap wrap (*ℤ_comm x' y)
    ∙ sym (int_wrap-mul_left w64 y x')
    ∙ ap (λ y. wrap (y *ℤ x')) right
    ∙ int_wrap-mul_left w64 y' x'
    ∙ ap wrap (*ℤ_comm y' x')

-- so are sums of products
pub same-dot : (f f' g g' : ℕ → ℤ) (n : ℕ) → ((q : ℕ) → q < n → wrap (f q) ≡ wrap (f' q))
    → ((q : ℕ) → q < n → wrap (g q) ≡ wrap (g' q)) → wrap (dot f g n) ≡ wrap (dot f' g' n)
same-dot f f' g g' zero left right = refl
same-dot f f' g g' (suc n) left right =
    same-add (dot f g n) (dot f' g' n) (f n *ℤ g n) (f' n *ℤ g' n)
    (same-dot f f' g g' n (λ q h. left q (omega arith)) (λ q h. right q (omega arith)))
    (same-mul (f n) (f' n) (g n) (g' n) (left n (omega arith)) (right n (omega arith)))

-- three numbers less a fourth, where each step wraps
pub wrap-three : (x y z w : ℤ)
    → wrap (wrap (wrap (x +ℤ y) +ℤ z) -ℤ w) ≡ wrap (((x +ℤ y) +ℤ z) -ℤ w)
wrap-three x y z w =
    same-sub (wrap (wrap (x +ℤ y) +ℤ z)) ((x +ℤ y) +ℤ z) w w
    (wrap-wrap (wrap (x +ℤ y) +ℤ z) ∙ int_wrap-add_left w64 (x +ℤ y) z) refl
