-- Cells that hold the rows of an operand.
use Rattle.std.proofs.Common.{◌≡◌, ℕ, ◌+◌, ◌*◌, ◌-◌, ◌/◌, ◌%◌, ◌<◌, ℤ, List, length, min}
use Rattle.std.proofs.Common.{FitsSigned, sym, subst, ap, ◌∙◌, arith, mul-le-mul_right}
use Rattle.std.proofs.lemmas.Grind.{div_ceil_times}
use Rattle.std.proofs.lemmas.Nat.{div_below, mod_below}
use Rattle.std.specs.Int.{w32, div_ceil}
use Rattle.tensor_values.specs.Values.{value_in}
use Rattle.tensor_kernels.specs.Panels.{panel_place, AreCells}
use Rattle.tensor_dots.specs.Inside.{AreInside}
use Rattle.tensor_dots.specs.Lanes.{AreSmall}
use Rattle.tensor_kernels.proofs.PanelPlaces.{panel_place-of}
use Rattle.tensor_values.proofs.Factors.{some_factor, some_size}

-- where panels are needed there are rows
some_rows : (panels m h : ℕ) → 0 < panels → panels * h < m + h → 0 < m
some_rows panels m h some few = omega (arith, mul-le-mul_right h some)

-- cells of numbers of 32 bits
pub are_small-cells : (h : ℕ) (cells values : List ℤ) (rows offsets : List ℕ) → 0 < h
    → length cells ≡ div_ceil (length rows) h * (length offsets * h)
    → AreCells h cells values rows offsets → AreInside values rows offsets → AreSmall values
    → AreSmall cells
are_small-cells h cells values rows offsets some long are inside small k below =
    let m = length rows in
    let n = length offsets in
    let within : k < div_ceil m h * (n * h) = rw (← long) below in
    let some_value : 0 < n * h = some_factor (div_ceil m h) (n * h) k within in
    let some_panel : 0 < div_ceil m h = some_size (div_ceil m h) (n * h) k within in
    let some_row : 0 < m = some_rows (div_ceil m h) m h some_panel ((div_ceil_times m h some).1) in
    let x = k / (n * h) * h + k % (n * h) % h in
    let q = k % (n * h) / h in
    let few : q < n = div_below (k % (n * h)) h n some (mod_below k (n * h) some_value) in
    let place : panel_place h n x q ≡ k = panel_place-of h n k some in
    let row : min x (m - 1) < m = omega arith in
    subst (FitsSigned w32)
    (sym (are x q few (rw place below)) ∙ ap (λ k. value_in cells k) place)
    (small _ (inside (min x (m - 1)) q row few))
