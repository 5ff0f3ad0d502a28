-- Views composed: traces along the axes of a second view.
use Rattle.std.proofs.Common.{◌≡◌, ℕ, zero, suc, ◌+◌, ◌-◌, ◌*◌, ◌/◌, ◌%◌, ◌<◌, ◌≤◌, List, [], ◌∷◌, length, map, get_or, Bool, true, false, not, nat_eq, nat_lt, if◌then◌else◌}
use Rattle.std.proofs.Common.{refl, ap, sym, ◌∙◌, arith, inl, inr}
use Rattle.std.proofs.lemmas.Bool.{cases_Bool, and_parts, ltb-true, ltb-false, eqb-true}
use Rattle.std.proofs.Math.Nat.{mod-add-div, mod-lt, div-le_self, mul-le-mul_left, mul-le-mul_right}
use Rattle.tensor_views.specs.Composing.{span}
use Rattle.tensor_views.specs.private.Tracing.{IsSameView, opened, left_axis, traced_axis, goes_along, traced_by, passed, extent_along}
use Rattle.tensor_views.specs.View.{view_size, reached, steps_to}
use Rattle.tensor_views.specs.declared.composing.Trace.{Trace}
use Rattle.tensor_views.specs.declared.composing.Trace.TheVariants.{Open, Traced}
use Rattle.tensor_views.specs.declared.axis.Axis.{Axis}
use Rattle.tensor_views.proofs.Views.{reached-start, reached-row, row-within, steps-alone}

true-from : (x : Bool) → not x ≡ false → x ≡ true
true-from true h = refl
true-from false h = (cc)

-- an index along an axis that is reversed, and along the axis the other way round, have all steps together
steps-swapped : (b a : Axis) (i : ℕ) → b.reversed ≡ true → i < a.size → steps_to a i + steps_to (traced_by b a) i ≡ a.size - 1
steps-swapped b a i reversed below =
    elim (cases_Bool a.reversed) [
      | inl down ↦ rw (reversed, down) (omega arith)
      | inr up ↦ rw (reversed, up) (omega arith)
    ]

-- how far traces go along the first axis, at a place
abbrev pub along_first : Axis → List Trace → ℕ → ℕ
along_first b [] p = 0
along_first b (Open a ∷ rest) p =
    if goes_along b a
    then steps_to a (p % a.size) * a.step + along_first b rest (p / a.size)
    else along_first b rest (p / a.size)
along_first b (Traced a ∷ rest) p = along_first b rest (p / a.size)

-- no index has more steps than the last
steps-most : (a : Axis) (i : ℕ) → i < a.size → steps_to a i ≤ a.size - 1
steps-most a i below =
    elim (cases_Bool a.reversed) [
      | inl reversed ↦ rw reversed (omega arith)
      | inr rises ↦ rw rises (omega arith)
    ]

share : (x t n : ℕ) → t % n ≡ 0 → x * t ≡ n * (x * (t / n))
share x t n none =
    let whole : t ≡ n * (t / n) = omega (arith, mod-add-div t n) in
    let moved : x * (n * (t / n)) ≡ n * (x * (t / n)) = grind arith in
    ap (λ m. x * m) whole ∙ moved

module _ (b : Axis) where
  -- an axis that doesn't go along the first one has its steps past it
  steps-beyond : (a : Axis) (i : ℕ) → i < a.size → goes_along b a ≡ false
      → steps_to a i * a.step ≡ b.size * (steps_to a i * (a.step / b.size))
  steps-beyond a i below not_along =
      elim (cases_Bool (nat_lt 1 a.size)) [
        | inl more ↦
            let none : nat_eq (a.step % b.size) 0 ≡ true = true-from (nat_eq (a.step % b.size) 0) (rw more at not_along) in
            share (steps_to a i) a.step b.size (eqb-true (a.step % b.size) 0 none)
        | inr one ↦
            let alone : a.size ≡ 1 = omega (arith, ltb-false 1 a.size one) in
            let first : i ≡ 0 = omega (arith, alone) in
            let stays : steps_to a i ≡ 0 = rw first (steps-alone a alone) in
            rw stays (omega arith)
      ]

  -- the places that are left, by those along the first axis and those past it
  pub lefts-passed : (traces : List Trace) (p : ℕ) → p < view_size (map traced_axis traces)
      → reached 0 (map left_axis traces) p
      ≡ along_first b traces p + b.size * reached 0 (map left_axis (map (passed b) traces)) p
  lefts-passed [] p below = omega arith
  lefts-passed (Open a ∷ rest) p below =
      let row = row-within 0 (traced_axis (Open a)) (map traced_axis rest) p below in
      let slower = lefts-passed rest (p / a.size) row.1 in
      elim (cases_Bool (goes_along b a)) [
        | inl along ↦ rw along (omega (arith, slower))
        | inr beyond ↦ rw beyond (omega (arith, slower, steps-beyond a (p % a.size) (mod-lt p row.0) beyond))
      ]
  lefts-passed (Traced a ∷ rest) p below =
      let row = row-within 0 a (map traced_axis rest) p below in
      omega (arith, lefts-passed rest (p / a.size) row.1)

  pub along_first-most : (traces : List Trace) (p : ℕ) → p < view_size (map traced_axis traces)
      → along_first b traces p ≤ extent_along b traces
  along_first-most [] p below = omega arith
  along_first-most (Open a ∷ rest) p below =
      let row = row-within 0 (traced_axis (Open a)) (map traced_axis rest) p below in
      let slower = along_first-most rest (p / a.size) row.1 in
      let most = mul-le-mul_right a.step (steps-most a (p % a.size) (mod-lt p row.0)) in
      elim (cases_Bool (goes_along b a)) [
        | inl along ↦ rw along (omega (arith, slower, most))
        | inr beyond ↦ rw beyond slower
      ]
  along_first-most (Traced a ∷ rest) p below =
      let row = row-within 0 a (map traced_axis rest) p below in
      along_first-most rest (p / a.size) row.1

  -- the operand's places, once the first axis is dealt with
  pub traced-forward : (traces : List Trace) (p : ℕ) → b.reversed ≡ false
      → reached 0 (map traced_axis (map (passed b) traces)) p
      ≡ reached 0 (map traced_axis traces) p + along_first b traces p * b.step
  traced-forward [] p rises = omega arith
  traced-forward (Open a ∷ rest) p rises =
      let slower = traced-forward rest (p / a.size) rises in
      elim (cases_Bool (goes_along b a)) [
        | inl along ↦
            let x = steps_to a (p % a.size) in
            let shares : (x * a.step + along_first b rest (p / a.size)) * b.step
            ≡ x * (a.step * b.step) + along_first b rest (p / a.size) * b.step = grind arith in
            rw (along, rises) (omega (arith, slower, shares))
        | inr beyond ↦ rw beyond (omega (arith, slower))
      ]
  traced-forward (Traced a ∷ rest) p rises = omega (arith, traced-forward rest (p / a.size) rises)

  pub traced-reversed : (traces : List Trace) (p : ℕ) → b.reversed ≡ true → p < view_size (map traced_axis traces)
      → reached 0 (map traced_axis (map (passed b) traces)) p + along_first b traces p * b.step
      ≡ reached 0 (map traced_axis traces) p + extent_along b traces * b.step
  traced-reversed [] p reversed below = omega arith
  traced-reversed (Open a ∷ rest) p reversed below =
      let row = row-within 0 (traced_axis (Open a)) (map traced_axis rest) p below in
      let slower = traced-reversed rest (p / a.size) reversed row.1 in
      elim (cases_Bool (goes_along b a)) [
        | inl along ↦
            let x : ℕ = steps_to a (p % a.size) in
            let y : ℕ = steps_to (traced_by b a) (p % a.size) in
            let both : x + y ≡ a.size - 1 = steps-swapped b a (p % a.size) reversed (mod-lt p row.0) in
            let shares : (x * a.step + along_first b rest (p / a.size)) * b.step
            ≡ x * (a.step * b.step) + along_first b rest (p / a.size) * b.step = grind arith in
            let most : ((x + y) * a.step + extent_along b rest) * b.step
            ≡ x * (a.step * b.step) + y * (a.step * b.step) + extent_along b rest * b.step = grind arith in
            let whole : ((a.size - 1) * a.step + extent_along b rest) * b.step
            ≡ x * (a.step * b.step) + y * (a.step * b.step) + extent_along b rest * b.step =
            ap (λ n. (n * a.step + extent_along b rest) * b.step) (sym both) ∙ most in
            rw along (omega (arith, slower, shares, whole))
        | inr beyond ↦ rw beyond (omega (arith, slower))
      ]
  traced-reversed (Traced a ∷ rest) p reversed below =
      let row = row-within 0 a (map traced_axis rest) p below in
      omega (arith, traced-reversed rest (p / a.size) reversed row.1)

  -- there are as many places as before
  pub view_size-passed : (traces : List Trace)
      → view_size (map traced_axis (map (passed b) traces)) ≡ view_size (map traced_axis traces)
  view_size-passed [] = refl
  view_size-passed (Open a ∷ rest) =
      let slower = view_size-passed rest in
      elim (cases_Bool (goes_along b a)) [
        | inl along ↦ rw along (ap (λ n. a.size * n) slower)
        | inr beyond ↦ rw beyond (ap (λ n. a.size * n) slower)
      ]
  view_size-passed (Traced a ∷ rest) = ap (λ n. a.size * n) (view_size-passed rest)

  -- what is left spans no more
  pub span-passed : (traces : List Trace) → span (map left_axis (map (passed b) traces)) ≤ span (map left_axis traces)
  span-passed [] = omega arith
  span-passed (Open a ∷ rest) =
      let slower = span-passed rest in
      elim (cases_Bool (goes_along b a)) [
        | inl along ↦ rw along (omega (arith, slower))
        | inr beyond ↦ rw beyond (omega (arith, slower, mul-le-mul_left (a.size - 1) (div-le_self a.step b.size)))
      ]
  span-passed (Traced a ∷ rest) = omega (arith, span-passed rest)

  pub extent_along-span : (traces : List Trace) → extent_along b traces ≤ span (map left_axis traces)
  extent_along-span [] = omega arith
  extent_along-span (Open a ∷ rest) =
      let slower = extent_along-span rest in
      elim (cases_Bool (goes_along b a)) [
        | inl along ↦ rw along (omega (arith, slower))
        | inr beyond ↦ rw beyond (omega (arith, slower))
      ]
  extent_along-span (Traced a ∷ rest) = omega (arith, extent_along-span rest)

  -- each trace goes along the first axis no further than all of them
  pub extent_along-one : (traces : List Trace) (k : ℕ) (d : Trace) → k < length traces
      → extent_along b (get_or traces k d ∷ []) ≤ extent_along b traces
  extent_along-one [] k d within = absurd (omega arith)
  extent_along-one (Open a ∷ rest) zero d within =
      elim (cases_Bool (goes_along b a)) [
        | inl along ↦ rw along (omega arith)
        | inr beyond ↦ rw beyond (omega arith)
      ]
  extent_along-one (Traced a ∷ rest) zero d within = omega arith
  extent_along-one (Open a ∷ rest) (suc k) d within =
      let slower = extent_along-one rest k d (omega arith) in
      elim (cases_Bool (goes_along b a)) [
        | inl along ↦ rw along (omega (arith, slower))
        | inr beyond ↦ rw beyond slower
      ]
  extent_along-one (Traced a ∷ rest) (suc k) d within = extent_along-one rest k d (omega arith)

-- an axis that goes along the first one has a step within what the traces go
pub step-most : (b a : Axis) → goes_along b a ≡ true → a.step ≤ extent_along b (Open a ∷ [])
step-most b a along =
    let parts = and_parts (nat_lt 1 a.size) _ along in
    let more : 1 ≤ a.size - 1 = omega (arith, ltb-true 1 a.size parts.0) in
    rw along (omega (arith, mul-le-mul_right a.step more))

-- traces of which no step is dealt with
pub left-opened : (axes : List Axis) → map left_axis (map opened axes) ≡ axes
left-opened [] = refl
left-opened (a ∷ rest) = ap (λ l. a ∷ l) (left-opened rest)

pub size-opened : (axes : List Axis) → view_size (map traced_axis (map opened axes)) ≡ view_size axes
size-opened [] = refl
size-opened (a ∷ rest) = ap (λ n. a.size * n) (size-opened rest)

pub traced-opened : (axes : List Axis) (p : ℕ) → reached 0 (map traced_axis (map opened axes)) p ≡ 0
traced-opened [] p = refl
traced-opened (a ∷ rest) p = omega (arith, traced-opened rest (p / a.size))

-- what is reached before any axis is dealt with
pub composed-begins : (from start : ℕ) (first axes second : List Axis) (p : ℕ) → IsSameView axes first
    → start + reached 0 (map traced_axis (map opened axes)) p + reached 0 second (from + reached 0 (map left_axis (map opened axes)) p)
    ≡ reached start second (reached from first p)
composed-begins from start first axes second p same =
    let place : from + reached 0 (map left_axis (map opened axes)) p ≡ reached from first p =
    ap (λ l. from + reached 0 l p) (left-opened axes) ∙ ap (λ n. from + n) (same.reaches p) ∙ sym (reached-start from first p) in
    let whole : start + reached 0 second (reached from first p) ≡ reached start second (reached from first p) =
    sym (reached-start start second (reached from first p)) in
    let more : reached 0 second (from + reached 0 (map left_axis (map opened axes)) p) ≡ reached 0 second (reached from first p) =
    ap (reached 0 second) place in
    omega (arith, traced-opened axes p, whole, more)

-- where traces begin along the first axis
abbrev pub first_step : Axis → ℕ → ℕ → ℕ
first_step b low high = if b.reversed then b.size - 1 - high else low

pub first_step-most : (b : Axis) (low high : ℕ) → low ≤ high → high < b.size → first_step b low high ≤ b.size - 1
first_step-most b low high order below =
    elim (cases_Bool b.reversed) [
      | inl reversed ↦ rw reversed (omega arith)
      | inr rises ↦ rw rises (omega arith)
    ]

-- which stays within the span
pub begins-within : (b : Axis) (rest : List Axis) (low extent place step limit : ℕ)
    → step ≡ first_step b low (low + extent)
    → low + extent < b.size → place + span (b ∷ rest) < limit → place + step * b.step < limit
begins-within b rest low extent place step limit is below within =
    let most = first_step-most b low (low + extent) (omega arith) below in
    let product : step * b.step ≤ (b.size - 1) * b.step = rw is (mul-le-mul_right b.step most) in
    omega (arith, within, product)

module _ (b : Axis) (rest : List Axis) (traces : List Trace) (left : ℕ) where
  -- the place that is reached, by its index along the first axis and its row
  row-passed : (p : ℕ) → p < view_size (map traced_axis traces)
      → left + reached 0 (map left_axis traces) p
      ≡ left % b.size + along_first b traces p + b.size * (left / b.size + reached 0 (map left_axis (map (passed b) traces)) p)
  row-passed p below =
      let q : ℕ = reached 0 (map left_axis (map (passed b) traces)) p in
      let shares : b.size * (left / b.size + q) ≡ b.size * (left / b.size) + b.size * q = grind arith in
      omega (arith, lefts-passed b traces p below, mod-add-div left b.size, shares)

  -- once the first axis is dealt with, the same is reached
  pub composed-goes : (place p : ℕ) → left % b.size + extent_along b traces < b.size → p < view_size (map traced_axis traces)
      → place + first_step b (left % b.size) (left % b.size + extent_along b traces) * b.step + reached 0 (map traced_axis (map (passed b) traces)) p
      + reached 0 rest (left / b.size + reached 0 (map left_axis (map (passed b) traces)) p)
      ≡ place + reached 0 (map traced_axis traces) p + reached 0 (b ∷ rest) (left + reached 0 (map left_axis traces) p)
  composed-goes place p within below =
      let most = along_first-most b traces p below in
      let f : ℕ = along_first b traces p in
      let i : ℕ = left % b.size + f in
      let q : ℕ = left / b.size + reached 0 (map left_axis (map (passed b) traces)) p in
      let row : reached 0 (b ∷ rest) (left + reached 0 (map left_axis traces) p) ≡ reached 0 rest q + steps_to b i * b.step =
      ap (reached 0 (b ∷ rest)) (row-passed p below) ∙ reached-row 0 b rest q i (omega (arith, most)) in
      elim (cases_Bool b.reversed) [
        | inl reversed ↦
            let e : ℕ = extent_along b traces in
            let high : ℕ = b.size - 1 - (left % b.size + e) in
            let low : ℕ = b.size - 1 - i in
            let even : high + e ≡ low + f = omega (arith, most) in
            let shares : (high + e) * b.step ≡ high * b.step + e * b.step = grind arith in
            let parts : (low + f) * b.step ≡ low * b.step + f * b.step = grind arith in
            let both : high * b.step + e * b.step ≡ low * b.step + f * b.step =
            sym shares ∙ ap (λ n. n * b.step) even ∙ parts in
            let swapped : steps_to b i ≡ low = rw reversed refl in
            let down : reached 0 (b ∷ rest) (left + reached 0 (map left_axis traces) p) ≡ reached 0 rest q + low * b.step =
            row ∙ ap (λ n. reached 0 rest q + n * b.step) swapped in
            let first : first_step b (left % b.size) (left % b.size + e) ≡ high = rw reversed refl in
            rw first (omega (arith, down, both, traced-reversed b traces p reversed below))
        | inr rises ↦
            let shares : i * b.step ≡ left % b.size * b.step + f * b.step = grind arith in
            let straight : steps_to b i ≡ i = rw rises refl in
            let up : reached 0 (b ∷ rest) (left + reached 0 (map left_axis traces) p) ≡ reached 0 rest q + i * b.step =
            row ∙ ap (λ n. reached 0 rest q + n * b.step) straight in
            let first : first_step b (left % b.size) (left % b.size + extent_along b traces) ≡ left % b.size = rw rises refl in
            rw first (omega (arith, up, shares, traced-forward b traces p rises))
      ]

  -- and what is left is within bounds
  pub left-within : (limit : ℕ) → left + span (map left_axis traces) < limit
      → left / b.size + span (map left_axis (map (passed b) traces)) < limit
  left-within limit within = omega (arith, within, div-le_self left b.size, span-passed b traces)

pub step-within : (b : Axis) (rest : List Axis) (place step limit : ℕ) → step ≤ b.size - 1
    → place + span (b ∷ rest) < limit → place + step * b.step + span rest < limit
step-within b rest place step limit most within = omega (arith, within, mul-le-mul_right b.step most)
