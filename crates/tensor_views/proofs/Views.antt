-- Views along their first axis.
use Rattle.std.proofs.Common.{◌≡◌, ℕ, ◌+◌, ◌-◌, ◌*◌, ◌/◌, ◌%◌, ◌<◌, ◌≤◌, List, [], ◌∷◌, length, map, get_or, refl, ap, ◌∙◌, arith}
use Rattle.std.proofs.Common.{inl, inr}
use Rattle.std.proofs.lemmas.Bool.{cases_Bool}
use Rattle.std.proofs.Common.{drop, add-one}
use Rattle.std.proofs.Math.Seq.{drop-cons}
use Rattle.std.specs.List.{range_with_len}
use Rattle.std.proofs.Math.Nat.{mod-eq_of_lt, div-eq_of_lt, add-mul-mod_self_left, add-mul-div_left, div-lt_iff_lt-mul, div-mul-le_self, mod-add-div, mod-lt, mul-le-mul_left, lt_of_not-le}
use Rattle.std.proofs.lemmas.Nat.{le-div}
use Rattle.std.proofs.lemmas.List.FromFn.{get_or-map-range_with_len}
use Rattle.tensor_values.proofs.Factors.{some_size}
use Rattle.tensor_views.specs.View.{along, reached, view_size, steps_to}
use Rattle.tensor_views.specs.declared.axis.Axis.{Axis}

-- the parts of a place: its index along the first axis, and its row
pub index-of_row : (d q i : ℕ) → i < d → (i + d * q) % d ≡ i
index-of_row d q i below = add-mul-mod_self_left i d q ∙ mod-eq_of_lt below

pub row-of_row : (d q i : ℕ) → i < d → (i + d * q) / d ≡ q
row-of_row d q i below =
    let some : 0 < d = omega arith in
    add-mul-div_left i q some ∙ ap (λ r. r + q) (div-eq_of_lt below) ∙ omega arith

-- a row's first place tells which row it is
pub first-of-row : (d first q : ℕ) → 0 < d → first ≡ d * q → first / d ≡ q
first-of-row d first q some is = ap (λ n. n / d) (omega (arith, is)) ∙ row-of_row d q 0 some

-- and so does each place that isn't a row away from it
pub row-of-first : (d first place : ℕ) → first ≡ d * (first / d) → first ≤ place
    → place - first < d → place / d ≡ first / d
row-of-first d first place is above below =
    let at : place ≡ place - first + d * (first / d) = omega (arith, is, above) in
    ap (λ n. n / d) at ∙ row-of_row d (first / d) (place - first) below

-- how far a place is from its row's first
pub index-from-first : (d first place : ℕ) → first ≡ d * (place / d) → place - first ≡ place % d
index-from-first d first place is = omega (arith, is, mod-add-div place d)

pub mul-next : (d q r : ℕ) → d * (q + (r + 1)) ≡ d * (q + r) + d
mul-next d q r = grind arith

-- a row's place along the axis
pub along-row : (rows : List ℕ) (axis : Axis) (first row i p : ℕ) → i < axis.size
    → p ≡ i + axis.size * (first / axis.size + row)
    → along rows axis first p ≡ get_or rows row 0 + steps_to axis i * axis.step
along-row rows axis first row i p below at =
    let q : p / axis.size ≡ first / axis.size + row =
    ap (λ n. n / axis.size) at ∙ row-of_row axis.size (first / axis.size + row) i below in
    let r : p % axis.size ≡ i = ap (λ n. n % axis.size) at ∙ index-of_row axis.size (first / axis.size + row) i below in
    let n : first / axis.size + row - first / axis.size ≡ row = omega arith in
    rw (q, r, n) refl

pub div-mono : (x y d : ℕ) → 0 < d → x ≤ y → x / d ≤ y / d
div-mono x y d some le = le-div (x / d) y d some (omega (arith, div-mul-le_self x d))

next-le : (q n : ℕ) → q < n → 0 + (q + 1) ≤ n
next-le q n h = omega arith

mul-lt : (q n d : ℕ) → 0 < d → q < n → d * q < d * n
mul-lt q n d some below = omega (arith, mul-next d 0 q, mul-le-mul_left d (next-le q n below))

-- rows that cover a run have all of its places
pub run-ended : (size first last place index row rows : ℕ) → row ≡ rows → (place < last → place ≡ index + size * (first / size + row))
    → place ≤ last → last ≤ size * (first / size + rows) → place ≡ last
run-ended size first last place index row rows done here within cover =
    let over : place + 1 ≤ last → ⊥ = λ more. let at = rw done at (here (omega arith)) in omega (arith, at, cover) in
    omega (arith, lt_of_not-le over)

-- the start is added
pub reached-start : (start : ℕ) (axes : List Axis) (p : ℕ) → reached start axes p ≡ start + reached 0 axes p
reached-start start [] p = omega arith
reached-start start (a ∷ rest) p =
    let slower = reached-start start rest (p / a.size) in
    omega (arith, slower)

-- one axis of those that are left
pub reached-drop : (axes : List Axis) (i rest : ℕ) (d : Axis) → i < length axes
    → reached 0 (drop i axes) rest
    ≡ reached 0 (drop (i + 1) axes) (rest / (get_or axes i d).size) + steps_to (get_or axes i d) (rest % (get_or axes i d).size) * (get_or axes i d).step
reached-drop axes i rest d within = rw (add-one, drop-cons axes i d within) refl

-- an axis of size 1 has no steps
pub steps-alone : (a : Axis) → a.size ≡ 1 → steps_to a 0 ≡ 0
steps-alone a alone =
    elim (cases_Bool a.reversed) [
      | inl reversed ↦ rw (reversed, alone) (omega arith)
      | inr rises ↦ rw rises refl
    ]

module _ (start : ℕ) (a : Axis) (rest : List Axis) where
  -- the place that is reached in a row
  pub reached-row : (q i : ℕ) → i < a.size → reached start (a ∷ rest) (i + a.size * q) ≡ reached start rest q + steps_to a i * a.step
  reached-row q i below = rw (row-of_row a.size q i below, index-of_row a.size q i below) refl

  -- a place in the view has its row in the slower axes
  pub row-within : (p : ℕ) → p < view_size (a ∷ rest) → (0 < a.size) × (p / a.size < view_size rest)
  row-within p below =
      let some : 0 < a.size = some_size a.size (view_size rest) p below in
      (some, (div-lt_iff_lt-mul {k = a.size} {x = p} {y = view_size rest} some).1 (omega arith))

  -- a row of the slower axes begins in the view
  pub row-begins : (q : ℕ) → 0 < a.size → q < view_size rest → a.size * q < view_size (a ∷ rest)
  row-begins q some below = omega (arith, mul-lt q (view_size rest) a.size some below)

  -- so what holds of all places that are reached holds of those of the slower axes
  pub slower-below : (limit : ℕ) → ((p : ℕ) → p < view_size (a ∷ rest) → reached start (a ∷ rest) p < limit)
      → 0 < a.size → (q : ℕ) → q < view_size rest → reached start rest q < limit
  slower-below limit fits some q below =
      omega (arith, reached-row q 0 some, fits (0 + a.size * q) (omega (arith, row-begins q some below)))

  module _ (alone : a.size ≡ 1) where
    pub alone-size : view_size (a ∷ rest) ≡ view_size rest
    alone-size = rw alone (omega arith)

    pub alone-reached : (p : ℕ) → reached start (a ∷ rest) p ≡ reached start rest p
    alone-reached p =
        let at : p ≡ 0 + a.size * p = rw alone (omega arith) in
        let none : steps_to a 0 * a.step ≡ 0 * a.step = ap (λ n. n * a.step) (steps-alone a alone) in
        ap (reached start (a ∷ rest)) at ∙ reached-row p 0 (omega arith) ∙ omega (arith, none)

  module _ (first last : ℕ) (order : first < last) (within : last ≤ view_size (a ∷ rest)) where
    pub rows-order : first / a.size < (last - 1) / a.size + 1
    rows-order =
        let some = (row-within (last - 1) (omega arith)).0 in
        omega (arith, div-mono first (last - 1) a.size some (omega arith))

    pub rows-within : (last - 1) / a.size + 1 ≤ view_size rest
    rows-within = omega (arith, (row-within (last - 1) (omega arith)).1)

    -- the rows reach to the last place
    pub rows-cover : last ≤ a.size * (first / a.size + ((last - 1) / a.size + 1 - first / a.size))
    rows-cover =
        let some = (row-within (last - 1) (omega arith)).0 in
        let all : first / a.size + ((last - 1) / a.size + 1 - first / a.size) ≡ 0 + ((last - 1) / a.size + 1) = omega (arith, rows-order) in
        rw all (omega (arith, mul-next a.size 0 ((last - 1) / a.size), mod-add-div (last - 1) a.size, mod-lt (last - 1) some))

    -- along the rows the view's places are reached
    pub along-reached : (p : ℕ) → first ≤ p → p < last
        → along (map (reached start rest) (range_with_len (first / a.size) ((last - 1) / a.size + 1 - first / a.size))) a first p ≡ reached start (a ∷ rest) p
    along-reached p above below =
        let some = (row-within (last - 1) (omega arith)).0 in
        let low = div-mono first p a.size some above in
        let high = div-mono p (last - 1) a.size some (omega arith) in
        ap (λ r. r + steps_to a (p % a.size) * a.step)
        (get_or-map-range_with_len (reached start rest) (first / a.size) ((last - 1) / a.size + 1 - first / a.size)
        (p / a.size - first / a.size) (p / a.size) 0 (omega arith) (omega arith))

    -- also where the rows are given by the places that they start at
    pub laid-along : (rows : List ℕ)
        → rows ≡ map (reached start rest) (range_with_len (first / a.size) ((last - 1) / a.size + 1 - first / a.size))
        → (p : ℕ) → first ≤ p → p < last → along rows a first p ≡ reached start (a ∷ rest) p
    laid-along rows same p above below = ap (λ l. along l a first p) same ∙ along-reached p above below
