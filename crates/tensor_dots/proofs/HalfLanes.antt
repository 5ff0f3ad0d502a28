-- Vectors, place by place. A local vector is known by its bits, a parameter or a result by its
-- numbers.
use Rattle.std.proofs.Common.{◌≡◌, ℕ, zero, suc, ◌+◌, ◌*◌, ◌%◌, ◌^◌, ◌<◌, ℤ, ◌+ℤ◌, pos}
use Rattle.std.proofs.Common.{List, [], ◌∷◌, length, map, FitsSigned, to_z, of_z, get_or, refl, ap}
use Rattle.std.proofs.Common.{sym, ◌∙◌, arith, bit_and}
use Rattle.std.specs.Int.{w64, int_wrap}
use Rattle.std.proofs.lemmas.List.{get_or-map, length-map}
use Rattle.std.proofs.lemmas.Nat.{and_mask}
use Rattle.std.proofs.lemmas.Simd.{get_or-zip2, length-zip2}
use lib.Lanes.{zip2}
use Rattle.tensor_values.specs.Values.{value_in}
use Rattle.tensor_shape.specs.Wrap.{wrap}
use Rattle.tensor_dots.specs.Lanes.{AreLanes}
use Rattle.tensor_dots.specs.Halves.{low_half, word_in, joined}
use Rattle.tensor_dots.proofs.HalfProducts.{wrap-onto}
use Rattle.tensor_dots.proofs.SimdLanes.{value_in-lanes}

-- lanes as bits
pub length-bits : (xs : List ℤ) → AreLanes xs → length (map (of_z w64) xs) ≡ 4
length-bits xs lanes = simp length-map (lanes.0)

pub at-bits : (xs : List ℤ) (r : ℕ) → AreLanes xs → r < 4
    → get_or (map (of_z w64) xs) r 0 ≡ of_z w64 (value_in xs r)
at-bits xs r lanes h = get_or-map (of_z w64) xs r (pos 0) 0 (omega (arith, lanes.0))

-- an operation on each lane of two vectors of n
pub length-both : (f : ℕ → ℕ → ℕ) (xs ys : List ℕ) (n : ℕ) → length xs ≡ n → length ys ≡ n
    → length (zip2 f xs ys) ≡ n
length-both f xs ys n hx hy = length-zip2 f xs ys (hx ∙ sym hy) ∙ hx

pub at-both : (f : ℕ → ℕ → ℕ) (xs ys : List ℕ) (n r : ℕ) → length xs ≡ n → length ys ≡ n → r < n
    → get_or (zip2 f xs ys) r 0 ≡ f (get_or xs r 0) (get_or ys r 0)
at-both f xs ys n r hx hy h = get_or-zip2 f xs ys r 0 0 0 (omega arith) (omega arith)

-- one number in four lanes
at-spread : (k r : ℕ) → r < 4 → get_or (k ∷ k ∷ k ∷ k ∷ []) r 0 ≡ k
at-spread k zero h = refl
at-spread k (suc zero) h = refl
at-spread k (suc (suc zero)) h = refl
at-spread k (suc (suc (suc zero))) h = refl
at-spread k (suc (suc (suc (suc r)))) h = absurd (omega arith)

-- a sum, with the product of what another operation leaves of two numbers
pub length-masked : (f g e : ℕ → ℕ → ℕ) (k : ℕ) (s x y : List ℤ) → AreLanes s → AreLanes x → AreLanes y
    → length (zip2 f (map (of_z w64) s) (zip2 g (zip2 e (map (of_z w64) x) (k ∷ k ∷ k ∷ k ∷ []))
    (zip2 e (map (of_z w64) y) (k ∷ k ∷ k ∷ k ∷ [])))) ≡ 4
length-masked f g e k s x y ls lx ly =
    length-both f _ _ 4 (length-bits s ls)
    (length-both g _ _ 4 (length-both e _ _ 4 (length-bits x lx) refl) (length-both e _ _ 4 (length-bits y ly) refl))

pub at-masked : (f g e : ℕ → ℕ → ℕ) (k : ℕ) (s x y : List ℤ) (r : ℕ) → AreLanes s → AreLanes x → AreLanes y → r < 4
    → value_in (map (to_z w64) (zip2 f (map (of_z w64) s) (zip2 g (zip2 e (map (of_z w64) x) (k ∷ k ∷ k ∷ k ∷ []))
    (zip2 e (map (of_z w64) y) (k ∷ k ∷ k ∷ k ∷ []))))) r
    ≡ to_z w64 (f (of_z w64 (value_in s r)) (g (e (of_z w64 (value_in x r)) k) (e (of_z w64 (value_in y r)) k)))
at-masked f g e k s x y r ls lx ly h =
    let m = k ∷ k ∷ k ∷ k ∷ [] in
    let left = zip2 e (map (of_z w64) x) m in
    let right = zip2 e (map (of_z w64) y) m in
    let is_m : get_or m r 0 ≡ k = at-spread k r h in
    let long_left : length left ≡ 4 = length-both e _ _ 4 (length-bits x lx) refl in
    let long_right : length right ≡ 4 = length-both e _ _ 4 (length-bits y ly) refl in
    let is_left : get_or left r 0 ≡ e (of_z w64 (value_in x r)) k =
    at-both e _ m 4 r (length-bits x lx) refl h ∙ ap (λ n. e n (get_or m r 0)) (at-bits x r lx h) ∙ ap (e _) is_m in
    let is_right : get_or right r 0 ≡ e (of_z w64 (value_in y r)) k =
    at-both e _ m 4 r (length-bits y ly) refl h ∙ ap (λ n. e n (get_or m r 0)) (at-bits y r ly h) ∙ ap (e _) is_m in
    get_or-map (to_z w64) _ r 0 (pos 0) (omega (arith, length-masked f g e k s x y ls lx ly))
    ∙ ap (to_z w64)
    (at-both f _ _ 4 r (length-bits s ls) (length-both g _ _ 4 long_left long_right) h
    ∙ ap (λ n. f n (get_or (zip2 g left right) r 0)) (at-bits s r ls h)
    ∙ ap (f _) (at-both g _ _ 4 r long_left long_right h ∙ ap (λ n. g n (get_or right r 0)) is_left ∙ ap (g _) is_right))

-- the product of two low halves, added to a lane
pub low-product : (s x y : ℤ) → FitsSigned w64 s
    → to_z w64 ((of_z w64 s + (bit_and (of_z w64 x) 4294967295 * bit_and (of_z w64 y) 4294967295) % 2 ^ 64) % 2 ^ 64)
    ≡ wrap (s +ℤ pos (low_half x * low_half y))
unfolding int_wrap
low-product s x y fits =
    let S = of_z w64 s in
    let p = low_half x * low_half y in
    let product : bit_and (of_z w64 x) 4294967295 * bit_and (of_z w64 y) 4294967295 ≡ p =
    ap (λ n. n * bit_and (of_z w64 y) 4294967295) (and_mask (of_z w64 x) 32) ∙ ap (λ n. low_half x * n) (and_mask (of_z w64 y) 32) in
    let once : (S + p % 2 ^ 64) % 2 ^ 64 ≡ (S + p) % 2 ^ 64 = omega arith in
    ap (λ n. to_z w64 ((S + n % 2 ^ 64) % 2 ^ 64)) product ∙ ap (to_z w64) once ∙ sym (wrap-onto s p fits)

-- what a lane and the words of its crossed halves stand for, once they have been joined
pub joined-stored : (z : ℤ) (c d : ℕ) → FitsSigned w64 z
    → to_z w64 ((of_z w64 z + (c + d) % 2 ^ 32 * 2 ^ 32 % 2 ^ 64) % 2 ^ 64) ≡ wrap (z +ℤ pos (2 ^ 32 * (c + d)))
unfolding int_wrap
joined-stored z c d fits =
    let S = of_z w64 z in
    let same : (S + (c + d) % 2 ^ 32 * 2 ^ 32 % 2 ^ 64) % 2 ^ 64 ≡ (S + 2 ^ 32 * (c + d)) % 2 ^ 64 = omega arith in
    ap (to_z w64) same ∙ sym (wrap-onto z (2 ^ 32 * (c + d)) fits)

pub joined-bits : (low : List ℤ) (crossed : List ℕ) (r : ℕ) → AreLanes low → r < 4
    → joined (map (to_z w64) (map (of_z w64) low)) crossed r ≡ joined low crossed r
joined-bits low crossed r lanes h =
    ap (λ v. wrap (v +ℤ pos (2 ^ 32 * (word_in crossed (2 * r) + word_in crossed (2 * r + 1)))))
    (value_in-lanes low lanes r h)
