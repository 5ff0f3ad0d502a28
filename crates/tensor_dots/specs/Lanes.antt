-- Numbers that fit lanes of vectors.
use Rattle.std.specs.Prelude.{◌≡◌, ℕ, ℤ, ◌<◌, List, length, FitsSigned}
use Rattle.std.specs.Int.{w32, w64}
use Rattle.tensor_values.specs.Values.{value_in}

-- four numbers of the `i64` range
abbrev pub AreLanes : List ℤ → Type 0
AreLanes xs = (length xs ≡ 4) × ((r : ℕ) → r < 4 → FitsSigned w64 (value_in xs r))

-- numbers of the `i32` range
abbrev pub AreSmall : List ℤ → Type 0
AreSmall xs = (k : ℕ) → k < length xs → FitsSigned w32 (value_in xs k)
