-- Where the values of a line are read, and what is known of the line.
use Rattle.std.proofs.Common.{◌≡◌, ℕ, ℤ, pos, ◌+◌, ◌*◌, ◌/◌, ◌%◌, ◌<◌, ◌≤◌, List, length}
use Rattle.std.proofs.Common.{refl, ap, ◌∙◌, arith, false}
use Rattle.std.specs.List.{between}
use Rattle.std.proofs.lemmas.Nat.{row_fits_turned}
use Rattle.std.proofs.lemmas.List.Edits.{length-between, get_or-between}
use Rattle.std.proofs.lemmas.List.FromFn.{fill_by_all}
use Rattle.std.proofs.Math.Nat.{le-mul_of_pos_right}
use Rattle.tensor_values.specs.Combining.{combination}
use Rattle.tensor_values.specs.Values.{value_in}
use Rattle.tensor_scans.specs.Lines.{first_place, is_cumulative, outcome, reducer_of}
use Rattle.tensor_scans.specs.Places.{along_at, line_place, line_through, line_values}
use Rattle.tensor_scans.specs.declared.lines.Lines.{Lines}
use Rattle.tensor_scans.specs.declared.operation.LineOperation.{LineOperation}
use Rattle.tensor_scans.specs.declared.operation.LineOperation.TheVariants.{Cumsum, Cumprod, Argmax, Argmin}
use Rattle.tensor_scans.proofs.LinePlaces.{block-lt, line_place-lt}
use Rattle.tensor_scans.proofs.Rows.{some_factor}

-- number k of a line lies k strides after the first
pub record IsRead (lines : Lines) (p k at : ℕ) : Type 0 where
  pub place : at ≡ line_place lines 1 p k
  pub inside : at < line_values lines lines.length

pub is_read : (lines : Lines) (p k first : ℕ) → p < line_values lines 1 → k < lines.length
    → first ≡ line_place lines 1 p 0 → IsRead lines p k (first + k * lines.stride)
is_read lines p k first below number is =
    let s = lines.stride in
    let d = lines.length in
    let block : p / (s * 1) < lines.blocks = block-lt s 1 lines.blocks p below in
    let some : 0 < s = some_factor s lines.blocks p (grind arith) in
    let place : first + k * s ≡ line_place lines 1 p k = grind arith in
    record {
      place = place;
      inside = omega (
        arith,
        place,
        line_place-lt s d lines.blocks (p % s) k (p / (s * 1)) (omega arith) number block,
      );
    }

-- an operation that is not cumulative takes all of the line
pub along-single : (o : LineOperation) (lines : Lines) (f : ℕ → ℤ) (p : ℕ) → is_cumulative o ≡ false
    → along_at o lines f p ≡ outcome o (line_through lines 1 f p)
along-single Cumsum lines f p single = (cc)
along-single Cumprod lines f p single = (cc)
along-single Argmax lines f p single = refl
along-single Argmin lines f p single = refl

-- there are no more lines than values, where lines have some
pub fewer_lines : (lines : Lines) → 0 < lines.length → line_values lines 1 ≤ line_values lines lines.length
fewer_lines lines some =
    let n : ℕ = lines.stride * lines.blocks in
    let more : n ≤ lines.length * n = omega (arith, le-mul_of_pos_right {m = lines.length} n some) in
    grind arith

-- and is what the combination's first place is
pub outcome-single : (o : LineOperation) (xs : List ℤ) → is_cumulative o ≡ false
    → outcome o xs ≡ pos (first_place (combination (reducer_of o) xs) xs)
outcome-single Cumsum xs single = (cc)
outcome-single Cumprod xs single = (cc)
outcome-single Argmax xs single = refl
outcome-single Argmin xs single = refl

-- where values lie side by side
side-place : (s d p k : ℕ) → s ≡ 1 → p * d + k ≡ p % s + s * (k + d * (p / (s * 1)))
side-place s d p k one =
    let whole : p / 1 ≡ p = omega arith in
    let rest : p % 1 ≡ 0 = omega arith in
    rw one (rw (whole, rest) (omega arith))

-- a line of them is within the values
pub side-within : (lines : Lines) (p : ℕ) → lines.stride ≡ 1 → p < line_values lines 1
    → p * lines.length + lines.length ≤ line_values lines lines.length
side-within lines p one below =
    let d = lines.length in
    let n = lines.blocks in
    let here : p < n = grind arith in
    let fits : p * d + d ≤ d * n = row_fits_turned p d d n here (omega arith) in
    rw one (omega (arith, fits))

-- and a part of them
pub side-line : (lines : Lines) (values : List ℤ) (p start : ℕ) → lines.stride ≡ 1
    → start ≡ p * lines.length → start + lines.length ≤ length values
    → between start (start + lines.length) values ≡ line_through lines 1 (value_in values) p
side-line lines values p start one is within =
    let d = lines.length in
    let long : length (between start (start + d) values) ≡ d =
    length-between values start (start + d) within ∙ omega arith in
    fill_by_all (λ k. value_in values (line_place lines 1 p k)) (between start (start + d) values) d
    (pos 0) long
    (λ k below.
    get_or-between values start (start + d) k (pos 0) (omega (arith, below))
    ∙ ap (value_in values) (ap (λ m. m + k) is ∙ side-place lines.stride d p k one))
