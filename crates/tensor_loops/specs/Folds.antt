-- Values that are combined one after the other, and where they lie.
use Rattle.std.specs.Prelude.{◌≡◌, ℕ, ℤ, ◌+◌, ◌*◌, ◌/◌, ◌%◌, ◌<◌}
use Rattle.std.specs.Prelude.{List, length, map}
use Rattle.std.specs.Prelude.{slice_index}
use Rattle.std.specs.List.{fold, range_with_len}
use Rattle.tensor_values.specs.Values.{value_in}
use Rattle.tensor_values.specs.Combining.{combine, unit}
use Rattle.tensor_values.specs.declared.reducer.Reducer.{Reducer}

-- x combined with the first n of others, one after the other
abbrev pub folded : Reducer → ℤ → (ℕ → ℤ) → ℕ → ℤ
folded r x others n = fold (combine r) x (map others (range_with_len 0 n))

-- the combination of run number `run`, beginning with the unit, where runs of n values lie one
-- after the other
abbrev pub run_folded : Reducer → (ℕ → ℤ) → ℕ → ℕ → ℤ
run_folded r values n run = folded r (unit r) (λ q. values (q + n * run)) n

-- each value of a row is its old value, combined with the first n of the others of its index
pub record IsCombined (r : Reducer) (old new : List ℤ)
    (others : ℕ → ℕ → ℤ) (n : ℕ) : Type 0 where
  pub len : length new ≡ length old
  pub each : (i : ℕ) → i < length old → value_in new i ≡ folded r (value_in old i) (others i) n

-- how far the q-th of the combined values lies from the start: they lie in runs of `run` values,
-- `step` apart, and each run begins at an offset
abbrev pub offset_at : List ℕ → ℕ → ℕ → ℕ → ℕ
offset_at offsets step run q = slice_index offsets (q / run) + q % run * step
