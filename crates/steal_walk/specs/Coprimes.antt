-- The numbers up to n whose only common divisor with n is 1.

use Rattle.std.specs.Prelude.{ℕ, ◌-◌, ◌%◌, ◌≤◌, ◌==◌, ◌&&◌, ◌↔◌, Bool, not, List, filter, Contains}
use Rattle.std.specs.List.{list_all, range_with_len}
use Rattle.std.specs.List.Sorted.{IsStrictlyIncreasing}
use Rattle.std.specs.Int.{IsGcd}

-- whether d divides n
abbrev pub divides : ℕ → ℕ → Bool
divides d n = n % d == 0

-- whether no number of 2..=n divides both a and n
abbrev pub are_coprime : ℕ → ℕ → Bool
are_coprime a n = list_all (λ d. not (divides d a && divides d n)) (range_with_len 2 (n - 1))

-- the numbers of 1..=n that are coprime to n, ascending
unfoldable pub coprimes_of : ℕ → List ℕ
coprimes_of n = filter (λ k. are_coprime k n) (range_with_len 1 n)

-- the numbers ascend, and are exactly those of 1..=n whose greatest common divisor with n is 1
pub record AreCoprimes (n : ℕ) (numbers : List ℕ) : Type 0 where
  pub ascending : IsStrictlyIncreasing numbers
  pub exact : (k : ℕ) → Contains numbers k ↔ ((1 ≤ k) × (k ≤ n) × IsGcd k n 1)
