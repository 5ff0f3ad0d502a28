-- The identity behind products two by two.
use Rattle.std.proofs.Common.{◌≡◌, ℕ, zero, suc, ◌+◌, ◌*◌, ℤ, pos, negsuc, ◌+ℤ◌, ◌-ℤ◌, ◌*ℤ◌}
use Rattle.std.proofs.Common.{refl, ap, sym, ◌∙◌, arith}
use Rattle.std.proofs.lemmas.Int.{ints, int_wrap-sub_right}
use Rattle.std.proofs.Math.IntN.{+ℤ_idl, zero-*ℤ, suc_ℤ-+ℤ, suc_ℤ-*ℤ, pred_ℤ-+ℤ, pred_ℤ-*ℤ, *ℤ_comm}
use Rattle.std.specs.Int.{w64}
use Rattle.tensor_shape.specs.Wrap.{wrap}
use Rattle.tensor_kernels.specs.private.Pairs.{own_pairs, pairs_dot}
use Rattle.tensor_dots.specs.Products.{dot}

after : (m n k : ℤ) → (m +ℤ n) +ℤ k ≡ (m +ℤ k) +ℤ n
after m n k = omega (arith, ints)

before : (m n k : ℤ) → (m +ℤ n) -ℤ k ≡ (m -ℤ k) +ℤ n
before m n k = omega (arith, ints)

zero-plus : (n k : ℤ) → (pos zero +ℤ n) *ℤ k ≡ pos zero *ℤ k +ℤ n *ℤ k
zero-plus n k =
    ap (λ z. z *ℤ k) (+ℤ_idl n) ∙ sym (ap (λ z. z +ℤ n *ℤ k) (zero-*ℤ k) ∙ +ℤ_idl (n *ℤ k))

-- a sum times a number
pub distrib : (m n k : ℤ) → (m +ℤ n) *ℤ k ≡ m *ℤ k +ℤ n *ℤ k
distrib (pos zero) n k = zero-plus n k
distrib (pos (suc a)) n k =
    ap (λ z. z *ℤ k) (suc_ℤ-+ℤ (pos a) n) ∙ suc_ℤ-*ℤ (pos a +ℤ n) k
    ∙ ap (λ z. z +ℤ k) (distrib (pos a) n k) ∙ after (pos a *ℤ k) (n *ℤ k) k
    ∙ ap (λ z. z +ℤ n *ℤ k) (sym (suc_ℤ-*ℤ (pos a) k))
distrib (negsuc zero) n k =
    ap (λ z. z *ℤ k) (pred_ℤ-+ℤ (pos zero) n) ∙ pred_ℤ-*ℤ (pos zero +ℤ n) k
    ∙ ap (λ z. z -ℤ k) (zero-plus n k) ∙ before (pos zero *ℤ k) (n *ℤ k) k
    ∙ ap (λ z. z +ℤ n *ℤ k) (sym (pred_ℤ-*ℤ (pos zero) k))
distrib (negsuc (suc a)) n k =
    ap (λ z. z *ℤ k) (pred_ℤ-+ℤ (negsuc a) n) ∙ pred_ℤ-*ℤ (negsuc a +ℤ n) k
    ∙ ap (λ z. z -ℤ k) (distrib (negsuc a) n k) ∙ before (negsuc a *ℤ k) (n *ℤ k) k
    ∙ ap (λ z. z +ℤ n *ℤ k) (sym (pred_ℤ-*ℤ (negsuc a) k))

mixed : (p q r s : ℤ) → (p +ℤ q) +ℤ (r +ℤ s) ≡ (q +ℤ r) +ℤ (p +ℤ s)
mixed p q r s = omega (arith, ints)

times-sum : (x y u : ℤ) → x *ℤ (y +ℤ u) ≡ x *ℤ y +ℤ x *ℤ u
times-sum x y u =
    *ℤ_comm x (y +ℤ u) ∙ distrib y u x ∙ ap (λ z. z +ℤ u *ℤ x) (*ℤ_comm y x)
    ∙ ap (λ z. x *ℤ y +ℤ z) (*ℤ_comm u x)

-- a product of two sums
foil : (x y u v : ℤ) → (x +ℤ v) *ℤ (y +ℤ u) ≡ (x *ℤ u +ℤ y *ℤ v) +ℤ (x *ℤ y +ℤ u *ℤ v)
foil x y u v =
    distrib x v (y +ℤ u)
    ∙ ap (λ z. z +ℤ v *ℤ (y +ℤ u)) (times-sum x y u)
    ∙ ap (λ z. (x *ℤ y +ℤ x *ℤ u) +ℤ z)
    (times-sum v y u ∙ ap (λ z. z +ℤ v *ℤ u) (*ℤ_comm v y) ∙ ap (λ z. y *ℤ v +ℤ z) (*ℤ_comm v u))
    ∙ mixed (x *ℤ y) (x *ℤ u) (y *ℤ v) (u *ℤ v)

gather : (m a b p q r s : ℤ) → (m +ℤ (a +ℤ b)) +ℤ ((p +ℤ q) +ℤ (r +ℤ s))
    ≡ ((m +ℤ p) +ℤ q) +ℤ ((a +ℤ r) +ℤ (b +ℤ s))
gather m a b p q r s = omega (arith, ints)

-- the sum of the products and what each row has by itself
pub pairs-split : (f g : ℕ → ℤ) (n : ℕ)
    → pairs_dot f g n ≡ dot f g (n * 2) +ℤ (own_pairs f n +ℤ own_pairs g n)
pairs-split f g zero = refl
pairs-split f g (suc n) =
    let x = f (2 * n) in
    let y = f (2 * n + 1) in
    let u = g (2 * n) in
    let v = g (2 * n + 1) in
    let two : suc n * 2 ≡ suc (suc (n * 2)) = omega arith in
    let even : n * 2 ≡ 2 * n = omega arith in
    let odd : suc (n * 2) ≡ 2 * n + 1 = omega arith in
    let M = dot f g (n * 2) in
    let A = own_pairs f n in
    let B = own_pairs g n in
    let step : dot f g (suc n * 2) ≡ (M +ℤ x *ℤ u) +ℤ y *ℤ v =
    ap (dot f g) two
    ∙ ap (λ k. (M +ℤ f k *ℤ g k) +ℤ f (suc (n * 2)) *ℤ g (suc (n * 2))) even
    ∙ ap (λ k. (M +ℤ x *ℤ u) +ℤ f k *ℤ g k) odd in
    ap (λ z. z +ℤ (x +ℤ v) *ℤ (y +ℤ u)) (pairs-split f g n)
    ∙ ap (λ z. (M +ℤ (A +ℤ B)) +ℤ z) (foil x y u v)
    ∙ gather M A B (x *ℤ u) (y *ℤ v) (x *ℤ y) (u *ℤ v)
    ∙ ap (λ z. z +ℤ ((A +ℤ x *ℤ y) +ℤ (B +ℤ u *ℤ v))) (sym step)

taken-off : (z w p : ℤ) → ((pos 0 -ℤ z) -ℤ w) +ℤ p ≡ (p -ℤ z) -ℤ w
taken-off z w p = omega (arith, ints)

swapped : (p a w : ℤ) → (p -ℤ a) -ℤ w ≡ (p -ℤ w) -ℤ a
swapped p a w = omega (arith, ints)

rest : (m a b : ℤ) → ((m +ℤ (a +ℤ b)) -ℤ b) -ℤ a ≡ m
rest m a b = omega (arith, ints)

-- what is left of it where the latter was taken off before, modulo 2^64
pub wrap-rest : (p m a b x y : ℤ) → p ≡ m +ℤ (a +ℤ b) → x ≡ wrap a → y ≡ wrap b
    → wrap (((pos 0 -ℤ x) -ℤ y) +ℤ p) ≡ wrap m
wrap-rest p m a b x y whole is_x is_y =
    ap wrap (taken-off x y p)
    ∙ ap (λ z. wrap ((p -ℤ x) -ℤ z)) is_y
    ∙ int_wrap-sub_right w64 (p -ℤ x) b
    ∙ ap wrap (swapped p x b)
    ∙ ap (λ z. wrap ((p -ℤ b) -ℤ z)) is_x
    ∙ int_wrap-sub_right w64 (p -ℤ b) a
    ∙ ap wrap (ap (λ z. (z -ℤ b) -ℤ a) whole ∙ rest m a b)
