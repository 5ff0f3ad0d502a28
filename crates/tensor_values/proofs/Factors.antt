-- Factors of numbers that are not 0.
use Rattle.std.proofs.Common.{ℕ, zero, suc, ◌*◌, ◌<◌, arith}

-- where a number is below a product, neither factor is 0
pub some_size : (d n p : ℕ) → p < d * n → 0 < d
some_size zero n p h = absurd (omega arith)
some_size (suc d) n p h = omega arith

pub some_factor : (a b c : ℕ) → c < a * b → 0 < b
some_factor a zero c below = absurd (omega arith)
some_factor a (suc b) c below = omega arith
