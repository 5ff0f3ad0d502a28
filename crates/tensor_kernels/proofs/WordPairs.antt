-- Pairs of words of 32 bits, each read as the number that its first word stands for.
use Rattle.std.proofs.Common.{◌≡◌, ℕ, suc, ◌+◌, ◌-◌, ◌*◌, ◌/◌, ◌%◌, ◌^◌, ◌<◌, ℤ, pos, negsuc, List, [], ◌∷◌}
use Rattle.std.proofs.Common.{length, map, FitsSigned, to_z, of_z, get_or, refl, ap, sym, subst, ◌∙◌}
use Rattle.std.proofs.Common.{add-zero, arith}
use Rattle.std.specs.Int.{w32, w64}
use Rattle.std.specs.Int.Signed.{shr_z}
use Rattle.std.proofs.Math.Facts.{to_z-neg}
use Rattle.std.proofs.lemmas.Int.{to_z-of_z, to_z_pos, ints}
use Rattle.std.proofs.lemmas.List.{get_or-map, length-map}
use Rattle.std.proofs.lemmas.Nat.{shl-shr}
use Rattle.std.proofs.lemmas.Simd.{get_or_wider, get_or-chunk, Each1-chunk}
use lib.Lanes.{Each1, number_l, digits_l, chunk}
use Rattle.tensor_values.specs.Values.{value_in}
use Rattle.tensor_dots.specs.Lanes.{AreSmall}
use Rattle.tensor_dots.proofs.HalfWords.{each-below, number-below, number-digits}
use Rattle.tensor_dots.proofs.SimdLanes.{wide}

-- a lane after a shift by half of it to the left, and one back that copies the sign
abbrev pub low_kept : ℕ → ℤ
low_kept n = to_z w64 (of_z w64 (shr_z (to_z w64 (n * 2 ^ 32 % 2 ^ 64)) (2 ^ 32)))

-- it holds the number that its low word stands for
low-number : (n : ℕ) (z : ℤ) → FitsSigned w32 z → n % 2 ^ 32 ≡ of_z w32 z → low_kept n ≡ z
low-number n (pos a) fits is =
    let word : n % 2 ^ 32 ≡ a = is in
    let few : a < 2 ^ 31 = omega (arith, ints) in
    let moved : n * 2 ^ 32 % 2 ^ 64 ≡ a * 2 ^ 32 = omega arith in
    let below : a * 2 ^ 32 < 2 ^ 63 = omega arith in
    ap (λ k. to_z w64 (of_z w64 (shr_z (to_z w64 k) (2 ^ 32)))) moved
    ∙ ap (λ v. to_z w64 (of_z w64 (shr_z v (2 ^ 32)))) (to_z_pos w64 (a * 2 ^ 32) below)
    ∙ ap (λ k. to_z w64 (of_z w64 (pos k))) (shl-shr a 32)
    ∙ to_z-of_z w64 (pos a) (wide (pos a) fits)
low-number n (negsuc a) fits is =
    let word : n % 2 ^ 32 ≡ 2 ^ 32 - suc a = is in
    let few : a < 2 ^ 31 = omega (arith, ints) in
    let k : ℕ = a * 2 ^ 32 + 4294967295 in
    let moved : n * 2 ^ 32 % 2 ^ 64 ≡ 2 ^ 64 - suc k = omega arith in
    let below : k < 2 ^ 63 = omega arith in
    let back : k / 2 ^ 32 ≡ a = omega arith in
    ap (λ m. to_z w64 (of_z w64 (shr_z (to_z w64 m) (2 ^ 32)))) moved
    ∙ ap (λ v. to_z w64 (of_z w64 (shr_z v (2 ^ 32)))) (to_z-neg w64 k below)
    ∙ ap (λ m. to_z w64 (of_z w64 (negsuc m))) back
    ∙ to_z-of_z w64 (negsuc a) (wide (negsuc a) fits)

-- the words of numbers of 32 bits
word_below : (z : ℤ) → FitsSigned w32 z → of_z w32 z < 2 ^ 32
word_below z fits = omega (arith, ints)

at-words : (values : List ℤ) (k : ℕ) → k < length values
    → get_or (map (of_z w32) values) k 0 ≡ of_z w32 (value_in values k)
at-words values k h = get_or-map (of_z w32) values k (pos 0) 0 h

words-below : (values : List ℤ) → AreSmall values → Each1 (λ x. x < 2 ^ 32) (map (of_z w32) values)
words-below values small =
    each-below (2 ^ 32) (map (of_z w32) values)
    (λ k h.
    let few : k < length values = simp length-map at h in
    subst (λ n. n < 2 ^ 32) (sym (at-words values k few)) (word_below (value_in values k) (small k few)))

-- the first of some words
first-word : (xs : List ℕ) → Each1 (λ x. x < 2 ^ 32) xs → number_l (2 ^ 32) xs % 2 ^ 32 ≡ get_or xs 0 0
first-word [] h = refl
first-word (x ∷ xs) h = let below : x < 2 ^ 32 = h.0 in omega arith

-- the lanes of eight words, by way of their bytes
abbrev pub lanes_of : List ℕ → List ℕ
lanes_of xs = digits_l (2 ^ 64) 4 (number_l 256 (digits_l 256 32 (number_l (2 ^ 32) xs)))

-- the low word of a lane is the first of its two
low-word-of : (values : List ℤ) (r : ℕ) → length values ≡ 8 → AreSmall values → r < 4
    → get_or (lanes_of (map (of_z w32) values)) r 0 % 2 ^ 32 ≡ of_z w32 (value_in values (2 * r))
low-word-of values r eight small h =
    let words = map (of_z w32) values in
    let number = number_l (2 ^ 32) words in
    let each : Each1 (λ x. x < 2 ^ 32) words = words-below values small in
    let long : length words ≡ 8 = simp length-map eight in
    let below : number < (2 ^ 32) ^ 8 = subst (λ n. number < (2 ^ 32) ^ n) long (number-below (2 ^ 32) words each) in
    let same : number_l 256 (digits_l 256 32 number) ≡ number = number-digits 256 32 number (omega arith) below in
    ap (λ n. get_or (digits_l (2 ^ 64) 4 n) r 0 % 2 ^ 32) same
    ∙ ap (λ n. n % 2 ^ 32) (get_or_wider (2 ^ 32) 2 (2 ^ 64) 4 words r refl each h)
    ∙ first-word (chunk (2 * r) 2 words) (Each1-chunk (λ x. x < 2 ^ 32) (2 * r) 2 words each)
    ∙ get_or-chunk (2 * r) 2 words 0 0 (omega arith)
    ∙ ap (λ k. get_or words k 0) (add-zero (2 * r))
    ∙ at-words values (2 * r) (omega (arith, eight))

pub even-value : (values : List ℤ) (r : ℕ) → length values ≡ 8 → AreSmall values → r < 4
    → value_in (map low_kept (lanes_of (map (of_z w32) values))) r ≡ value_in values (2 * r)
even-value values r eight small h =
    get_or-map low_kept (lanes_of (map (of_z w32) values)) r 0 (pos 0) h
    ∙ low-number (get_or (lanes_of (map (of_z w32) values)) r 0) (value_in values (2 * r))
    (small (2 * r) (omega (arith, eight))) (low-word-of values r eight small h)
