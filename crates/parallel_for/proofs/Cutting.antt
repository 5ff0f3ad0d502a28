-- Ranges that are cut after a number of whole blocks.
use Rattle.std.proofs.Common.{◌≡◌, inl, inr, ℕ, ◌+◌, ◌-◌, ◌*◌, ◌/◌, ◌%◌, ◌<◌, ◌≤◌, min}
use Rattle.std.proofs.Common.{List, [], ◌∷◌, ◌++◌, map}
use Rattle.std.proofs.Common.{ap, sym, ◌∙◌, arith}
use Rattle.std.proofs.Math.Nat.{add-mul-div_right, add-mul-mod_self_right, mul-le-mul_right}
use Rattle.std.proofs.Math.Nat.{div-eq_of_lt, mod-eq_of_lt, eq-or-lt_of_le}
use Rattle.std.proofs.lemmas.Grind.{div_ceil_times}
use Rattle.std.specs.List.{range_with_len}
use Rattle.parallel_for.specs.Leaves.{Range, blocks_of, leaf, leaves_of}
use Rattle.parallel_for.proofs.Runs.{map-shifted, map-joined}

pub times-add : (a b c : ℕ) → (a + b) * c ≡ a * c + b * c
times-add a b c = grind arith

-- m whole blocks more
blocks_of-more : (x m b : ℕ) → 0 < b → blocks_of (x + m * b) b ≡ blocks_of x b + m
blocks_of-more x m b some =
    let q : (x + m * b) / b ≡ x / b + m = add-mul-div_right x m some in
    let r : (x + m * b) % b ≡ x % b = add-mul-mod_self_right x m b in
    rw (q, r) (omega arith)

-- m whole blocks alone
blocks_of-whole : (m b : ℕ) → 0 < b → blocks_of (m * b) b ≡ m
blocks_of-whole m b some =
    let q : (0 + m * b) / b ≡ 0 / b + m = add-mul-div_right 0 m some in
    let r : (0 + m * b) % b ≡ 0 % b = add-mul-mod_self_right 0 m b in
    let no_blocks : 0 / b ≡ 0 = omega arith in
    let no_part : 0 % b ≡ 0 = omega arith in
    let same : 0 + m * b ≡ m * b = omega arith in
    rw (← same, q, r, no_blocks, no_part) (omega arith)

-- the blocks of a range that is cut after m of them
pub blocks_of-cut : (first last m b : ℕ) → 0 < b → first ≤ last → first + m * b ≤ last
    → blocks_of (last - first) b
    ≡ blocks_of (first + m * b - first) b + blocks_of (last - (first + m * b)) b
blocks_of-cut first last m b some order within =
    let front : first + m * b - first ≡ m * b = omega arith in
    let whole : last - first ≡ last - (first + m * b) + m * b = omega arith in
    rw (front, blocks_of-whole m b some, whole, blocks_of-more (last - (first + m * b)) m b some)
    (omega arith)

module _ (first b : ℕ) where
  -- the first m leaves end where a range of m blocks does
  leaves-low : (d m : ℕ) → m * b ≤ d
      → map (leaf first d b) (range_with_len 0 m)
      ≡ map (leaf first (m * b) b) (range_with_len 0 m)
  leaves-low d m within = map-shifted (leaf first d b) (leaf first (m * b) b) 0 0 m (λ k below.
      let next : (k + 1) * b ≤ m * b = mul-le-mul_right b (omega arith) in
      let plain : 0 + k ≡ k = omega arith in
      let end : first + min ((0 + k + 1) * b) d ≡ first + min ((0 + k + 1) * b) (m * b) =
      rw plain (omega arith) in
      ap (λ (e : ℕ). (first + (0 + k) * b, e)) end)

  -- the leaves from m on are the leaves of the places after m blocks
  leaves-high : (rest m count : ℕ)
      → map (leaf first (rest + m * b) b) (range_with_len m count)
      ≡ map (leaf (first + m * b) rest b) (range_with_len 0 count)
  leaves-high rest m count =
      let d = rest + m * b in
      map-shifted (leaf first d b) (leaf (first + m * b) rest b) m 0 count (λ k below.
      let plain : 0 + k ≡ k = omega arith in
      let start : first + (m + k) * b ≡ first + m * b + (0 + k) * b =
      rw plain (omega (arith, times-add m k b)) in
      let end : first + min ((m + k + 1) * b) d ≡ first + m * b + min ((0 + k + 1) * b) rest =
      rw plain (omega (arith, times-add (m + k) 1 b, times-add k 1 b, times-add m k b)) in
      (λ i. (start i, end i)))

-- the leaves of a range that is cut after m blocks
pub leaves_of-cut : (first last m b : ℕ) → 0 < b → first ≤ last → first + m * b ≤ last
    → leaves_of first last b
    ≡ leaves_of first (first + m * b) b ++ leaves_of (first + m * b) last b
leaves_of-cut first last m b some order within =
    let d = last - first in
    let rest = last - (first + m * b) in
    let count = blocks_of rest b in
    let front : first + m * b - first ≡ m * b = omega arith in
    let whole : d ≡ rest + m * b = omega arith in
    let many : blocks_of d b ≡ m + count = rw (whole, blocks_of-more rest m b some) (omega arith) in
    let low = leaves-low first b d m (omega arith) in
    let high : map (leaf first d b) (range_with_len m count)
    ≡ map (leaf (first + m * b) rest b) (range_with_len 0 count) =
    ap (λ (n : ℕ). map (leaf first n b) (range_with_len m count)) whole
    ∙ leaves-high first b rest m count in
    let plain : 0 + m ≡ m = omega arith in
    rw (many, front, blocks_of-whole m b some)
    (sym (map-joined (leaf first d b) 0 m count)
    ∙ ap (λ (l : List Range). l ++ map (leaf first d b) (range_with_len (0 + m) count)) low
    ∙ ap (λ (a : ℕ). map (leaf first (m * b) b) (range_with_len 0 m)
    ++ map (leaf first d b) (range_with_len a count)) plain
    ∙ ap (λ (l : List Range). map (leaf first (m * b) b) (range_with_len 0 m) ++ l) high)

-- each block begins before the end
pub leaf-begins : (n b i : ℕ) → 0 < b → i < blocks_of n b → i * b < n
leaf-begins n b i some below =
    let up = (div_ceil_times n b some).1 in
    let next : (i + 1) * b ≤ blocks_of n b * b = mul-le-mul_right b (omega arith) in
    omega (arith, times-add i 1 b, up)

-- a leaf as the code computes it
pub leaf-worked_out : (n b i : ℕ) → 0 < b → i < blocks_of n b
    → (i * b, i * b + min b (n - i * b)) ≡ leaf 0 (n - 0) b i
leaf-worked_out n b i some below =
    let begins = leaf-begins n b i some below in
    let start : i * b ≡ 0 + i * b = omega arith in
    let end : i * b + min b (n - i * b) ≡ 0 + min ((i + 1) * b) (n - 0) =
    omega (arith, times-add i 1 b) in
    (λ k. (start k, end k))

-- places that fit into a block
blocks_of-short : (n b : ℕ) → 0 < n → n ≤ b → blocks_of n b ≡ 1
blocks_of-short n b some short = elim (eq-or-lt_of_le short) [
  | inl same ↦
      let once : n ≡ 1 * b = omega (arith, same) in
      ap (λ (m : ℕ). blocks_of m b) once ∙ blocks_of-whole 1 b (omega arith)
  | inr less ↦
      let q : n / b ≡ 0 = div-eq_of_lt less in
      let r : n % b ≡ n = mod-eq_of_lt less in
      rw (q, r) (omega arith)
]

-- a range of at most a block is its own leaf
pub leaves_of-short : (first last b : ℕ) → first < last → last - first ≤ b
    → leaves_of first last b ≡ (first, last) ∷ []
leaves_of-short first last b some short =
    let n = last - first in
    let start : first + 0 * b ≡ first = omega arith in
    let end : first + min ((0 + 1) * b) n ≡ last = omega arith in
    ap (λ (m : ℕ). map (leaf first n b) (range_with_len 0 m))
    (blocks_of-short n b (omega arith) short)
    ∙ (λ i. (start i, end i) ∷ [])
