-- Products two by two.
use Rattle.std.proofs.Common.{◌≡◌, ℕ, zero, suc, ◌+◌, ◌-◌, ◌*◌, ◌%◌, ◌^◌, ◌<◌, ℤ, pos, ◌+ℤ◌}
use Rattle.std.proofs.Common.{◌-ℤ◌, ◌*ℤ◌, FitsSigned, List, [], ◌∷◌, map, to_z, of_z, refl, ap, sym, ◌∙◌, rules, arith, get_or}
use Rattle.std.proofs.lemmas.List.{get_or-map}
use Rattle.std.proofs.lemmas.Int.{int_wrap-add_left, int_wrap-add_right, int_wrap-mul_left}
use Rattle.std.proofs.lemmas.Int.{int_wrap-mul_right, wraps, wrapping_sub-bits}
use Rattle.std.specs.Int.{w64, int_wrap}
use lib.Lanes.{zip2}
use Rattle.tensor_values.specs.Values.{value_in}
use Rattle.tensor_shape.specs.Wrap.{wrap}
use Rattle.tensor_dots.specs.Halves.{AreWords, joined, word_in}
use Rattle.tensor_kernels.specs.private.Pairs.{pairs_dot}
use Rattle.tensor_dots.specs.Lanes.{AreLanes}
use Rattle.tensor_dots.proofs.HalfProducts.{wrap-bits}
use Rattle.tensor_dots.proofs.HalfLanes.{length-bits, at-bits, length-both, at-both, joined-bits}
use Rattle.tensor_dots.proofs.ProductSums.{wrap-next_from}
use Rattle.tensor_dots.proofs.SimdLanes.{value_in-lanes}

-- a sum of bits, read as a number
pub bits-sum : (x y : ℤ) → FitsSigned w64 x → FitsSigned w64 y
    → to_z w64 ((of_z w64 x + of_z w64 y) % 2 ^ 64) ≡ wrap (x +ℤ y)
unfolding int_wrap
bits-sum x y fits_x fits_y =
    sym (ap (λ v. wrap (v +ℤ y)) (sym (wrap-bits x fits_x))
    ∙ int_wrap-add_left w64 (pos (of_z w64 x)) y
    ∙ ap (λ v. wrap (pos (of_z w64 x) +ℤ v)) (sym (wrap-bits y fits_y))
    ∙ int_wrap-add_right w64 (pos (of_z w64 x)) (pos (of_z w64 y)))

-- two vectors, lane by lane
pub at-two : (f : ℕ → ℕ → ℕ) (x y : List ℤ) (r : ℕ) → AreLanes x → AreLanes y → r < 4
    → value_in (map (to_z w64) (zip2 f (map (of_z w64) x) (map (of_z w64) y))) r
    ≡ to_z w64 (f (of_z w64 (value_in x r)) (of_z w64 (value_in y r)))
at-two f x y r lx ly h =
    get_or-map (to_z w64) _ r 0 (pos 0)
    (omega (arith, length-both f _ _ 4 (length-bits x lx) (length-bits y ly)))
    ∙ ap (to_z w64)
    (at-both f _ _ 4 r (length-bits x lx) (length-bits y ly) h
    ∙ ap (λ n. f n (get_or (map (of_z w64) y) r 0)) (at-bits x r lx h)
    ∙ ap (f _) (at-bits y r ly h))

-- a difference of bits, read as a number
pub bits-difference : (x y : ℤ) → FitsSigned w64 x → FitsSigned w64 y
    → to_z w64 ((of_z w64 x + (2 ^ 64 - of_z w64 y)) % 2 ^ 64) ≡ wrap (x -ℤ y)
bits-difference x y fits_x fits_y = search (rules, wraps, wrapping_sub-bits w64)

-- a product of two wrapped numbers, added
pub wrap-product : (s x y : ℤ) → wrap (s +ℤ (wrap x *ℤ wrap y)) ≡ wrap (s +ℤ (x *ℤ y))
wrap-product s x y =
    sym (int_wrap-add_right w64 s (wrap x *ℤ wrap y))
    ∙ ap (λ v. wrap (s +ℤ v)) (int_wrap-mul_left w64 x (wrap y) ∙ int_wrap-mul_right w64 x y)
    ∙ int_wrap-add_right w64 s (x *ℤ y)

-- the words of sums by halves before the first product
abbrev none : List ℕ
none = 0 ∷ 0 ∷ 0 ∷ 0 ∷ 0 ∷ 0 ∷ 0 ∷ 0 ∷ []

at-none : (k : ℕ) → word_in none k ≡ 0
at-none zero = refl
at-none (suc zero) = refl
at-none (suc (suc zero)) = refl
at-none (suc (suc (suc zero))) = refl
at-none (suc (suc (suc (suc zero)))) = refl
at-none (suc (suc (suc (suc (suc zero))))) = refl
at-none (suc (suc (suc (suc (suc (suc zero)))))) = refl
at-none (suc (suc (suc (suc (suc (suc (suc zero))))))) = refl
at-none (suc (suc (suc (suc (suc (suc (suc (suc k)))))))) = refl

pub none_words : AreWords none
none_words = (refl, λ k h. omega (arith, at-none k))

-- and what they stand for, beside what the lanes begin with
pub none_joined : (z : ℤ) (low : List ℤ) (r : ℕ) → AreLanes low → r < 4 → value_in low r ≡ wrap z
    → joined (map (to_z w64) (map (of_z w64) low)) none r ≡ wrap (z +ℤ pos 0)
none_joined z low r lanes h is =
    joined-bits low none r lanes h
    ∙ ap (λ n. wrap (value_in low r +ℤ pos (2 ^ 32 * (n + word_in none (2 * r + 1))))) (at-none (2 * r))
    ∙ ap (λ n. wrap (value_in low r +ℤ pos (2 ^ 32 * (0 + n)))) (at-none (2 * r + 1))
    ∙ ap (λ v. wrap (v +ℤ pos 0)) is
    ∙ int_wrap-add_left w64 z (pos 0)

-- the product of a pair more in a lane, which began with a number
pub next_pair : (z : ℤ) (f g : ℕ → ℤ) (low x y out : List ℤ) (words more : List ℕ) (r q : ℕ) → r < 4
    → AreLanes x → AreLanes y → AreLanes out → joined low words r ≡ wrap (z +ℤ pairs_dot f g q)
    → value_in x r ≡ f (2 * q) → value_in y r ≡ f (2 * q + 1)
    → joined out more r ≡ wrap (joined low words r
    +ℤ ((value_in (map (to_z w64) (map (of_z w64) x)) r +ℤ g (2 * q + 1))
    *ℤ (value_in (map (to_z w64) (map (of_z w64) y)) r +ℤ g (2 * q))))
    → joined (map (to_z w64) (map (of_z w64) out)) more r ≡ wrap (z +ℤ pairs_dot f g (q + 1))
next_pair z f g low x y out words more r q h lanes_x lanes_y lanes so_far is_x is_y is =
    let left : value_in (map (to_z w64) (map (of_z w64) x)) r ≡ f (2 * q) =
    value_in-lanes x lanes_x r h ∙ is_x in
    let right : value_in (map (to_z w64) (map (of_z w64) y)) r ≡ f (2 * q + 1) =
    value_in-lanes y lanes_y r h ∙ is_y in
    joined-bits out more r lanes h
    ∙ wrap-next_from z (λ k. (f (2 * k) +ℤ g (2 * k + 1)) *ℤ (f (2 * k + 1) +ℤ g (2 * k))) q
    (joined low words r) (joined out more r) so_far (rw (left, right) at is)
