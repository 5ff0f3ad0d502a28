-- Sums in the lanes of vectors, one product after another.
use Rattle.std.proofs.Common.{◌≡◌, ℕ, ◌+◌, ◌-◌, ◌<◌, ◌≤◌, ℤ, ◌+ℤ◌, ◌*ℤ◌, List, map}
use Rattle.std.proofs.Common.{to_z, of_z}
use Rattle.std.proofs.Common.{ap, sym, ◌∙◌, arith, inl, inr, zero-add}
use Rattle.std.specs.Int.{w64}
use Rattle.std.proofs.lemmas.Bool.{cases_lt}
use Rattle.tensor_shape.specs.Wrap.{wrap}
use Rattle.tensor_dots.specs.Halves.{joined}
use Rattle.tensor_dots.specs.Lanes.{AreLanes}
use Rattle.tensor_values.specs.Values.{value_in}
use Rattle.tensor_dots.specs.Products.{sum_to}
use Rattle.tensor_dots.proofs.HalfLanes.{joined-bits}
use Rattle.tensor_dots.proofs.ProductSums.{wrap-next}
use Rattle.tensor_dots.proofs.SimdLanes.{value_in-lanes}

-- a place of a row k + j + r rows after the first, with the offset before its number or behind it
pub swapped : (x offset k j r : ℕ) → x + offset + k + j + r ≡ x + (k + j + r) + offset
swapped x offset k j r = omega arith

pub behind : (x offset k r : ℕ) → x + offset + k + r ≡ x + (k + r) + offset
behind x offset k r = omega arith

-- a product of the same factors
pub same-factors : {x y x' y' : ℤ} → x ≡ x' → y ≡ y' → x *ℤ y ≡ x' *ℤ y'
same-factors left right = cc

-- one product more in a lane
pub next_lane : (f : ℕ → ℤ) (sums x y out : List ℤ) (r q : ℕ) → r < 4 → AreLanes x → AreLanes y
    → AreLanes out → value_in sums r ≡ wrap (sum_to f q)
    → value_in x r *ℤ value_in y r ≡ f q
    → value_in out r ≡ wrap (value_in sums r +ℤ (value_in (map (to_z w64) (map (of_z w64) x)) r
    *ℤ value_in (map (to_z w64) (map (of_z w64) y)) r))
    → value_in (map (to_z w64) (map (of_z w64) out)) r ≡ wrap (sum_to f (q + 1))
next_lane f sums x y out r q h lanes_x lanes_y lanes so_far product is =
    let left = value_in-lanes x lanes_x r h in
    let right = value_in-lanes y lanes_y r h in
    value_in-lanes out lanes r h
    ∙ wrap-next f q (value_in sums r) (value_in out r) so_far
    (rw (left, right, product) at is)

-- one product more by halves
pub next_joined : (f : ℕ → ℤ) (low x y out : List ℤ) (words more : List ℕ) (r q : ℕ) → r < 4
    → AreLanes x → AreLanes y → AreLanes out → joined low words r ≡ wrap (sum_to f q)
    → value_in x r *ℤ value_in y r ≡ f q
    → joined out more r ≡ wrap (joined low words r
    +ℤ (value_in (map (to_z w64) (map (of_z w64) x)) r
    *ℤ value_in (map (to_z w64) (map (of_z w64) y)) r))
    → joined (map (to_z w64) (map (of_z w64) out)) more r ≡ wrap (sum_to f (q + 1))
next_joined f low x y out words more r q h lanes_x lanes_y lanes so_far product is =
    let left = value_in-lanes x lanes_x r h in
    let right = value_in-lanes y lanes_y r h in
    joined-bits out more r lanes h
    ∙ wrap-next f q (joined low words r) (joined out more r) so_far
    (rw (left, right, product) at is)

-- four values from place k on, by their own places
by_place : (f : ℕ → ℤ) (xs : List ℤ) (x k : ℕ)
    → ((r : ℕ) → r < 4 → value_in xs (k + r) ≡ f (x + k + r))
    → (t : ℕ) → k ≤ t → t < k + 4 → value_in xs t ≡ f (x + t)
by_place f xs x k is t from before =
    let r : ℕ = t - k in
    let here : k + r ≡ t = omega arith in
    let place : x + k + r ≡ x + t = omega arith in
    ap (value_in xs) (sym here) ∙ is r (omega arith) ∙ ap f place

-- four fours, stored one after another
pub by_fours : (f : ℕ → ℤ) (x : ℕ) (s0 s1 s2 s3 : List ℤ)
    → ((r : ℕ) → r < 4 → value_in s0 (0 + r) ≡ f (x + r))
    → ((r : ℕ) → r < 4 → value_in s1 (4 + r) ≡ f (x + 4 + r))
    → ((r : ℕ) → r < 4 → value_in s2 (8 + r) ≡ f (x + 8 + r))
    → ((r : ℕ) → r < 4 → value_in s3 (12 + r) ≡ f (x + 12 + r))
    → ((s : ℕ) → s < 4 → value_in s1 s ≡ value_in s0 s)
    → ((s : ℕ) → s < 8 → value_in s2 s ≡ value_in s1 s)
    → ((s : ℕ) → s < 12 → value_in s3 s ≡ value_in s2 s)
    → (t : ℕ) → t < 16 → value_in s3 t ≡ f (x + t)
by_fours f x s0 s1 s2 s3 is0 is1 is2 is3 kept1 kept2 kept3 t h =
    elim (cases_lt t 12) [
      | inr last ↦ by_place f s3 x 12 is3 t last h
      | inl below_12 ↦
          kept3 t below_12
          ∙ elim (cases_lt t 8) [
            | inr third ↦ by_place f s2 x 8 is2 t third below_12
            | inl below_8 ↦
                kept2 t below_8
                ∙ elim (cases_lt t 4) [
                  | inr second ↦ by_place f s1 x 4 is1 t second below_8
                  | inl below_4 ↦
                      kept1 t below_4 ∙ ap (value_in s0) (sym (zero-add t)) ∙ is0 t below_4
                ]
          ]
    ]

-- the lane sums from place 0 on
pub by_fours_here : (f : ℕ → ℤ) (s0 s1 s2 s3 : List ℤ)
    → ((r : ℕ) → r < 4 → value_in s0 (0 + r) ≡ f r)
    → ((r : ℕ) → r < 4 → value_in s1 (4 + r) ≡ f (4 + r))
    → ((r : ℕ) → r < 4 → value_in s2 (8 + r) ≡ f (8 + r))
    → ((r : ℕ) → r < 4 → value_in s3 (12 + r) ≡ f (12 + r))
    → ((s : ℕ) → s < 4 → value_in s1 s ≡ value_in s0 s)
    → ((s : ℕ) → s < 8 → value_in s2 s ≡ value_in s1 s)
    → ((s : ℕ) → s < 12 → value_in s3 s ≡ value_in s2 s)
    → (t : ℕ) → t < 16 → value_in s3 t ≡ f t
by_fours_here f s0 s1 s2 s3 is0 is1 is2 is3 kept1 kept2 kept3 t h =
    by_fours f 0 s0 s1 s2 s3 (λ r h. is0 r h ∙ ap f (sym (zero-add r))) is1 is2 is3
    kept1 kept2 kept3 t h
    ∙ ap f (zero-add t)
