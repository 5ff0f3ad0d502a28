-- Sums of products of sums and of differences.
use Rattle.std.proofs.Common.{◌≡◌, ℕ, zero, suc, ℤ, ◌+ℤ◌, ◌-ℤ◌, ◌*ℤ◌, refl, ap, sym, ◌∙◌, arith}
use Rattle.std.proofs.lemmas.Int.{ints}
use Rattle.std.proofs.Math.IntN.{*ℤ_comm, +ℤ-neg_ℤ_cancel}
use Rattle.tensor_dots.specs.Products.{dot}
use Rattle.tensor_kernels.proofs.PairProducts.{distrib}

plus-rest : (x y : ℤ) → (x -ℤ y) +ℤ y ≡ x
plus-rest x y = omega (arith, ints)

-- a difference times a number
distrib-sub : (x y z : ℤ) → (x -ℤ y) *ℤ z ≡ x *ℤ z -ℤ y *ℤ z
distrib-sub x y z =
    sym (+ℤ-neg_ℤ_cancel ((x -ℤ y) *ℤ z) (y *ℤ z))
    ∙ ap (λ v. v -ℤ y *ℤ z) (sym (distrib (x -ℤ y) y z) ∙ ap (λ v. v *ℤ z) (plus-rest x y))

between : (a b x y : ℤ) → (a +ℤ b) +ℤ (x +ℤ y) ≡ (a +ℤ x) +ℤ (b +ℤ y)
between a b x y = omega (arith, ints)

between-sub : (a b x y : ℤ) → (a -ℤ b) +ℤ (x -ℤ y) ≡ (a +ℤ x) -ℤ (b +ℤ y)
between-sub a b x y = omega (arith, ints)

-- sums of products in the other order
pub dot_comm : (f g : ℕ → ℤ) (n : ℕ) → dot f g n ≡ dot g f n
dot_comm f g zero = refl
dot_comm f g (suc n) =
    ap (λ s. s +ℤ f n *ℤ g n) (dot_comm f g n) ∙ ap (λ v. dot g f n +ℤ v) (*ℤ_comm (f n) (g n))

pub dot-add : (f f' g : ℕ → ℤ) (n : ℕ)
    → dot (λ q. f q +ℤ f' q) g n ≡ dot f g n +ℤ dot f' g n
dot-add f f' g zero = refl
dot-add f f' g (suc n) =
    ap (λ s. s +ℤ (f n +ℤ f' n) *ℤ g n) (dot-add f f' g n)
    ∙ ap (λ v. (dot f g n +ℤ dot f' g n) +ℤ v) (distrib (f n) (f' n) (g n))
    ∙ between (dot f g n) (dot f' g n) (f n *ℤ g n) (f' n *ℤ g n)

pub dot-sub : (f f' g : ℕ → ℤ) (n : ℕ)
    → dot (λ q. f q -ℤ f' q) g n ≡ dot f g n -ℤ dot f' g n
dot-sub f f' g zero = refl
dot-sub f f' g (suc n) =
    ap (λ s. s +ℤ (f n -ℤ f' n) *ℤ g n) (dot-sub f f' g n)
    ∙ ap (λ v. (dot f g n -ℤ dot f' g n) +ℤ v) (distrib-sub (f n) (f' n) (g n))
    ∙ between-sub (dot f g n) (dot f' g n) (f n *ℤ g n) (f' n *ℤ g n)

-- and of the second factors
pub dot-add_right : (f g g' : ℕ → ℤ) (n : ℕ)
    → dot f (λ q. g q +ℤ g' q) n ≡ dot f g n +ℤ dot f g' n
dot-add_right f g g' n =
    dot_comm f (λ q. g q +ℤ g' q) n ∙ dot-add g g' f n
    ∙ ap (λ s. s +ℤ dot g' f n) (dot_comm g f n) ∙ ap (λ s. dot f g n +ℤ s) (dot_comm g' f n)

pub dot-sub_right : (f g g' : ℕ → ℤ) (n : ℕ)
    → dot f (λ q. g q -ℤ g' q) n ≡ dot f g n -ℤ dot f g' n
dot-sub_right f g g' n =
    dot_comm f (λ q. g q -ℤ g' q) n ∙ dot-sub g g' f n
    ∙ ap (λ s. s -ℤ dot g' f n) (dot_comm g f n) ∙ ap (λ s. dot f g n -ℤ s) (dot_comm g' f n)
