-- Where the values of a line lie.
use Rattle.std.proofs.Common.{ℕ, ◌+◌, ◌*◌, ◌/◌, ◌%◌, ◌<◌, ◌≤◌, subst, sym, arith}
use Rattle.std.proofs.Math.Nat.{div-div-eq-div-mul, div-lt_iff_lt-mul, le-mul_of_pos_right}
use Rattle.std.proofs.lemmas.Nat.{mul-add-lt}
use Rattle.tensor_values.proofs.Factors.{some_size}

-- the block of a place is one of the blocks
pub block-lt : (s w n p : ℕ) → p < s * w * n → p / (s * w) < n
block-lt s w n p below =
    let some : 0 < s * w = some_size (s * w) n p below in
    (div-lt_iff_lt-mul {k = s * w} {x = p} {y = n} some).1 (omega (arith, below))

-- the number k of a line of block b, at place r among the lines, lies within the values
pub line_place-lt : (s d n r k b : ℕ) → r < s → k < d → b < n → r + s * (k + d * b) < s * d * n
line_place-lt s d n r k b among below within =
    let row : k + d * b < d * n = omega (arith, mul-add-lt b d k n within below) in
    omega (arith, mul-add-lt (k + d * b) s r (d * n) row among)

-- a row starts no earlier than its number
pub row-le : (s x : ℕ) → 0 < s → x ≤ s * x
row-le s x some = omega (arith, le-mul_of_pos_right {m = s} x some)

-- the place of a number is that by one quotient, and its parts and itself are within the values
pub line_place-parts : (s w d n p k : ℕ) → p < s * w * n → k < d
    → (d * (p / s / w) ≤ k + d * (p / s / w))
    × ((k + d * (p / s / w) ≤ s * (k + d * (p / s / w)))
    × (p % s + s * (k + d * (p / s / w)) < s * d * n))
line_place-parts s w d n p k below number =
    let some : 0 < s * w = some_size (s * w) n p below in
    let stride : 0 < s = some_size s w 0 some in
    let block : p / s / w < n =
    subst (λ (q : ℕ). q < n) (sym (div-div-eq-div-mul p s w)) (block-lt s w n p below) in (
      omega arith,
      (
        row-le s (k + d * (p / s / w)) stride,
        line_place-lt s d n (p % s) k (p / s / w) (omega arith) number block,
      ),
    )
