-- Products of rows, of which one operand has a single one.
use Rattle.std.proofs.Common.{◌≡◌, ℕ, ℤ, ◌*ℤ◌, ◌/◌, ◌%◌, ◌<◌, ap, sym, ◌∙◌, arith}
use Rattle.std.proofs.Math.IntN.{*ℤ_comm}
use Rattle.std.proofs.Math.Nat.{div-eq_of_lt, mod-eq_of_lt}
use Rattle.tensor_shape.specs.Wrap.{wrap}
use Rattle.tensor_dots.specs.Products.{sum_to, rows_dot}
use Rattle.tensor_dots.proofs.ProductSums.{sum_to-ext}

-- where the first has one row, its products are the same the other way round
pub rows_dot-swapped : (m n w n' : ℕ) (first second : ℕ → ℕ → ℤ) (p : ℕ) → n ≡ n' → m ≡ 1 → p < w
    → rows_dot w n' second first p ≡ rows_dot m n first second p
rows_dot-swapped m n w n' first second p long one below =
    let none : p % m ≡ 0 = rw one (omega arith) in
    let alone : p / m ≡ p = rw one (omega arith) in
    let row : p / w ≡ p % m = div-eq_of_lt below ∙ sym none in
    let column : p % w ≡ p / m = mod-eq_of_lt below ∙ sym alone in
    ap wrap
    (ap (λ n. sum_to (λ q. second (p % w) q *ℤ first (p / w) q) n) (sym long)
    ∙ sum_to-ext _ _ n
    (λ q h.
    *ℤ_comm (second (p % w) q) (first (p / w) q)
    ∙ ap (λ x. first x q *ℤ second (p % w) q) row
    ∙ ap (λ y. first (p % m) q *ℤ second y q) column))
