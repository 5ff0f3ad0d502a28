-- Axes that are the first ones, in order: the places of their index lists lie side by side.
use Rattle.std.proofs.Common.{◌≡◌, ℕ, ◌*◌, ◌%◌, ◌<◌, ◌≤◌, List, [], ◌∷◌, length, get_or}
use Rattle.std.proofs.Common.{true, ap, sym, ◌∙◌, arith}
use Rattle.std.proofs.lemmas.List.{ext_get_or}
use Rattle.std.proofs.lemmas.List.FromFn.{get_or-range_with_len, length-range_with_len}
use Rattle.std.proofs.Math.Nat.{mod-eq_of_lt}
use Rattle.std.specs.List.{range_with_len}
use Rattle.tensor_shape.specs.Index.{size_of}
use Rattle.tensor_views.specs.Offsets.{offset_of, HasOffsets}
use Rattle.tensor_terms.specs.Reduction.{are_axes}
use Rattle.tensor_terms.specs.Merged.{dims_at}
use Rattle.tensor_terms.proofs.OtherAxes.{get_or-are_axes}
use Rattle.tensor_views.proofs.OffsetRanges.{offset_of-range}

-- axes of which each is its own place are a range
pub are_range : (axes : List ℕ) → ((i : ℕ) → i < length axes → get_or axes i 0 ≡ i)
    → axes ≡ range_with_len 0 (length axes)
are_range axes each =
    let n = length axes in
    ext_get_or 0 axes (range_with_len 0 n) (sym (length-range_with_len 0 n))
    (λ i below.
    let at : get_or (range_with_len 0 n) i 0 ≡ i =
    get_or-range_with_len 0 n i 0 below ∙ omega arith in
    each i below ∙ sym at)

-- no more than there are
pub length-first : (rank : ℕ) (axes : List ℕ) → are_axes rank axes ≡ true
    → axes ≡ range_with_len 0 (length axes) → length axes ≤ rank
length-first rank [] once first = omega arith
length-first rank (x ∷ xs) once first =
    let n = length xs in
    let here : get_or (x ∷ xs) n 0 ≡ n =
    ap (λ l. get_or l n 0) first
    ∙ get_or-range_with_len 0 (length (x ∷ xs)) n 0 (omega arith) ∙ omega arith in
    omega (arith, here, get_or-are_axes rank n (x ∷ xs) once (omega arith))

-- the table of their places is a run of numbers
pub offsets-first : (ds axes : List ℕ) → are_axes (length ds) axes ≡ true
    → axes ≡ range_with_len 0 (length axes) → 0 < size_of (dims_at axes ds)
    → HasOffsets (range_with_len 0 (size_of (dims_at axes ds))) axes ds
offsets-first ds axes once first some =
    let n = size_of (dims_at axes ds) in
    let k = length axes in
    let few : k ≤ length ds = length-first (length ds) axes once first in
    let size : size_of (dims_at (range_with_len 0 k) ds) ≡ n =
    ap (λ l. size_of (dims_at l ds)) (sym first) in
    record {
      len = length-range_with_len 0 n;
      each = λ p below.
          let at : offset_of axes ds p ≡ p % n * 1 =
          ap (λ l. offset_of l ds p) first
          ∙ offset_of-range ds 0 k p (omega (arith, few)) (omega (arith, size))
          ∙ ap (λ m. p % m * 1) size in
          omega (arith, at, get_or-range_with_len 0 n p 0 below, mod-eq_of_lt below);
    }
