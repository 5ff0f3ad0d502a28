-- The words of four numbers.
use Rattle.std.proofs.Common.{◌≡◌, ℕ, zero, suc, ◌+◌, ◌*◌, ◌/◌, ◌%◌, ◌^◌, ◌<◌, ℤ, List, [], ◌∷◌}
use Rattle.std.proofs.Common.{◌++◌, length, map, of_z, get_or, refl, ap, sym, subst, ◌∙◌, arith}
use Rattle.std.specs.Int.{w64}
use Rattle.std.proofs.Math.Nat.{div-lt_iff_lt-mul, pow-zero, pow-suc}
use Rattle.std.proofs.Math.Arith.{digits_lt}
use Rattle.std.proofs.lemmas.List.{get_or_append_left}
use Rattle.std.proofs.lemmas.Simd.{get_or_narrower}
use lib.Lanes.{Each1, number_l, digits_l, zip2}
use Rattle.tensor_values.specs.Values.{value_in}
use Rattle.tensor_dots.specs.Lanes.{AreLanes}
use Rattle.tensor_dots.specs.Halves.{low_half, high_half}
use Rattle.tensor_dots.proofs.HalfProducts.{bits_below}
use Rattle.tensor_dots.proofs.HalfLanes.{length-bits, at-bits, length-both, at-both}

-- numbers that are below a bound at each place
pub each-below : (p : ℕ) (xs : List ℕ) → ((k : ℕ) → k < length xs → get_or xs k 0 < p) → Each1 (λ x. x < p) xs
each-below p [] h = tt
each-below p (x ∷ xs) h = (h 0 (omega arith), each-below p xs (λ k lt. h (suc k) (omega arith)))

pub bits-below : (xs : List ℤ) → AreLanes xs → Each1 (λ x. x < 2 ^ 64) (map (of_z w64) xs)
bits-below xs lanes =
    each-below (2 ^ 64) (map (of_z w64) xs)
    (λ k h.
    let few : k < 4 = omega (arith, h, length-bits xs lanes) in
    subst (λ n. n < 2 ^ 64) (sym (at-bits xs k lanes few)) (bits_below (value_in xs k) (lanes.1 k few)))

-- a number with length xs digits is below p ^ length xs
pub number-below : (p : ℕ) (xs : List ℕ) → Each1 (λ x. x < p) xs → number_l p xs < p ^ length xs
number-below p [] h = rw (pow-zero p) (omega arith)
number-below p (x ∷ xs) h =
    let r = number_l p xs in
    let less : r * p + x < p ^ length xs * p = digits_lt (number-below p xs h.1) h.0 in
    let swapped : r * p + x ≡ x + p * r = omega arith in
    rw (pow-suc p (length xs)) (subst (λ n. n < p ^ length xs * p) swapped less)

-- the digits of a number that has no more make it again
pub number-digits : (q n x : ℕ) → 0 < q → x < q ^ n → number_l q (digits_l q n x) ≡ x
number-digits q zero x some h = let below : x < 1 = rw (pow-zero q) at h in omega arith
number-digits q (suc n) x some h =
    let below : x < q ^ n * q = rw (pow-suc q n) at h in
    let rest : x / q < q ^ n = (div-lt_iff_lt-mul some).1 below in
    ap (λ k. x % q + q * k) (number-digits q n (x / q) some rest) ∙ omega arith

-- the words of numbers of 64 bits, by way of their bytes
abbrev pub words_of : List ℕ → List ℕ
words_of xs = digits_l (2 ^ 32) 8 (number_l 256 (digits_l 256 32 (number_l (2 ^ 64) xs)))

pub word-of : (xs : List ℤ) (j i : ℕ) → AreLanes xs → j < 4 → i < 2
    → get_or (words_of (map (of_z w64) xs)) (2 * j + i) 0 ≡ of_z w64 (value_in xs j) / (2 ^ 32) ^ i % 2 ^ 32
word-of xs j i lanes h first =
    let bits = map (of_z w64) xs in
    let number = number_l (2 ^ 64) bits in
    let below : number < (2 ^ 64) ^ length bits = number-below (2 ^ 64) bits (bits-below xs lanes) in
    let below_4 : number < (2 ^ 64) ^ 4 = subst (λ n. number < (2 ^ 64) ^ n) (length-bits xs lanes) below in
    let same : number_l 256 (digits_l 256 32 number) ≡ number = number-digits 256 32 number (omega arith) below_4 in
    ap (λ n. get_or (digits_l (2 ^ 32) 8 n) (2 * j + i) 0) same
    ∙ get_or_narrower (2 ^ 64) 2 (2 ^ 32) 8 bits j i refl (bits-below xs lanes) first (omega arith)
    ∙ ap (λ n. n / (2 ^ 32) ^ i % 2 ^ 32) (at-bits xs j lanes h)

pub low-word : (xs : List ℤ) (j : ℕ) → AreLanes xs → j < 4
    → get_or (words_of (map (of_z w64) xs)) (2 * j) 0 ≡ low_half (value_in xs j)
low-word xs j lanes h =
    let at : 2 * j + 0 ≡ 2 * j = omega arith in
    ap (λ k. get_or (words_of (map (of_z w64) xs)) k 0) (sym at) ∙ word-of xs j 0 lanes h (omega arith)
    ∙ (let one : of_z w64 (value_in xs j) / 1 ≡ of_z w64 (value_in xs j) = omega arith in ap (λ n. n % 2 ^ 32) one)

pub high-word : (xs : List ℤ) (j : ℕ) → AreLanes xs → j < 4
    → get_or (words_of (map (of_z w64) xs)) (2 * j + 1) 0 ≡ high_half (value_in xs j)
high-word xs j lanes h =
    let below : of_z w64 (value_in xs j) < 2 ^ 64 = bits_below (value_in xs j) (lanes.1 j h) in
    let whole : of_z w64 (value_in xs j) / 2 ^ 32 % 2 ^ 32 ≡ of_z w64 (value_in xs j) / 2 ^ 32 = omega arith in
    word-of xs j 1 lanes h (omega arith) ∙ whole

-- each word is the low or the high one of a number
pub by-halves : (P : ℕ → Type 0) → ((r : ℕ) → r < 4 → P (2 * r)) → ((r : ℕ) → r < 4 → P (2 * r + 1))
    → (k : ℕ) → k < 8 → P k
by-halves P low high zero h = low 0 (omega arith)
by-halves P low high (suc zero) h = high 0 (omega arith)
by-halves P low high (suc (suc zero)) h = low 1 (omega arith)
by-halves P low high (suc (suc (suc zero))) h = high 1 (omega arith)
by-halves P low high (suc (suc (suc (suc zero)))) h = low 2 (omega arith)
by-halves P low high (suc (suc (suc (suc (suc zero))))) h = high 2 (omega arith)
by-halves P low high (suc (suc (suc (suc (suc (suc zero)))))) h = low 3 (omega arith)
by-halves P low high (suc (suc (suc (suc (suc (suc (suc zero))))))) h = high 3 (omega arith)
by-halves P low high (suc (suc (suc (suc (suc (suc (suc (suc k)))))))) h = absurd (omega arith)

pub half_below : (x : ℕ) → x < 2 ^ 64 → (x % 2 ^ 32 < 2 ^ 32) × (x / 2 ^ 32 < 2 ^ 32)
half_below x h = (omega arith, omega arith)

-- the two words of each number, swapped
abbrev pub swapped : List ℕ → List ℕ
swapped ys =
    get_or (ys ++ ys) 1 0 ∷ get_or (ys ++ ys) 0 0 ∷ get_or (ys ++ ys) 3 0 ∷ get_or (ys ++ ys) 2 0
    ∷ get_or (ys ++ ys) 5 0 ∷ get_or (ys ++ ys) 4 0 ∷ get_or (ys ++ ys) 7 0 ∷ get_or (ys ++ ys) 6 0 ∷ []

swapped-low : (ys : List ℕ) (r : ℕ) → r < 4 → get_or (swapped ys) (2 * r) 0 ≡ get_or (ys ++ ys) (2 * r + 1) 0
swapped-low ys zero h = refl
swapped-low ys (suc zero) h = refl
swapped-low ys (suc (suc zero)) h = refl
swapped-low ys (suc (suc (suc zero))) h = refl
swapped-low ys (suc (suc (suc (suc r)))) h = absurd (omega arith)

swapped-high : (ys : List ℕ) (r : ℕ) → r < 4 → get_or (swapped ys) (2 * r + 1) 0 ≡ get_or (ys ++ ys) (2 * r) 0
swapped-high ys zero h = refl
swapped-high ys (suc zero) h = refl
swapped-high ys (suc (suc zero)) h = refl
swapped-high ys (suc (suc (suc zero))) h = refl
swapped-high ys (suc (suc (suc (suc r)))) h = absurd (omega arith)

-- an operation on words, and one on words and swapped ones
abbrev pub crossed : (ℕ → ℕ → ℕ) → (ℕ → ℕ → ℕ) → List ℕ → List ℕ → List ℕ → List ℕ
crossed f g sums xs ys = zip2 f sums (zip2 g xs (swapped ys))

pub length-crossed : (f g : ℕ → ℕ → ℕ) (sums xs ys : List ℕ) → length sums ≡ 8 → length xs ≡ 8
    → length (crossed f g sums xs ys) ≡ 8
length-crossed f g sums xs ys hs hx = length-both f _ _ 8 hs (length-both g _ _ 8 hx refl)

pub at-crossed-low : (f g : ℕ → ℕ → ℕ) (sums xs ys : List ℕ) (r : ℕ) → length sums ≡ 8 → length xs ≡ 8 → length ys ≡ 8 → r < 4
    → get_or (crossed f g sums xs ys) (2 * r) 0
    ≡ f (get_or sums (2 * r) 0) (g (get_or xs (2 * r) 0) (get_or ys (2 * r + 1) 0))
at-crossed-low f g sums xs ys r hs hx hy h =
    at-both f _ _ 8 (2 * r) hs (length-both g _ _ 8 hx refl) (omega arith)
    ∙ ap (f _) (at-both g xs (swapped ys) 8 (2 * r) hx refl (omega arith)
    ∙ ap (g _) (swapped-low ys r h ∙ get_or_append_left ys ys 0 (2 * r + 1) (omega arith)))

pub at-crossed-high : (f g : ℕ → ℕ → ℕ) (sums xs ys : List ℕ) (r : ℕ) → length sums ≡ 8 → length xs ≡ 8 → length ys ≡ 8 → r < 4
    → get_or (crossed f g sums xs ys) (2 * r + 1) 0
    ≡ f (get_or sums (2 * r + 1) 0) (g (get_or xs (2 * r + 1) 0) (get_or ys (2 * r) 0))
at-crossed-high f g sums xs ys r hs hx hy h =
    at-both f _ _ 8 (2 * r + 1) hs (length-both g _ _ 8 hx refl) (omega arith)
    ∙ ap (f _) (at-both g xs (swapped ys) 8 (2 * r + 1) hx refl (omega arith)
    ∙ ap (g _) (swapped-high ys r h ∙ get_or_append_left ys ys 0 (2 * r) (omega arith)))

pub once : (c p : ℕ) → (c + p % 2 ^ 32) % 2 ^ 32 ≡ (c + p) % 2 ^ 32
once c p = omega arith

pub remainder_below : (n : ℕ) → n % 2 ^ 32 < 2 ^ 32
remainder_below n = omega arith
