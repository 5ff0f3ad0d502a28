-- Places that can be added up before they are mapped along a view.
use Rattle.std.proofs.Common.{◌≡◌, ℕ, ◌+◌, ◌*◌, ◌/◌, ◌%◌, ◌<◌, ◌≤◌, List, [], ◌∷◌, length, slice_index, false}
use Rattle.std.proofs.Common.{refl, ap, sym, subst, ◌∙◌, arith}
use Rattle.std.proofs.Math.Arith.{mod-mul}
use Rattle.std.proofs.Math.Nat.{mod-add-div, mod-le, div-div-eq-div-mul, mul_comm}
use Rattle.std.proofs.Math.Nat.{mul-le-mul_left, lt_of_not-le}
use Rattle.tensor_views.specs.View.{view_size, reached, AreApart, AreAllApart}
use Rattle.tensor_views.specs.declared.axis.Axis.{Axis}
use Rattle.tensor_values.proofs.Factors.{some_factor}
use Rattle.tensor_views.proofs.Views.{index-of_row, row-of_row}

mul-sum : (d q r : ℕ) → d * (q + r) ≡ d * q + d * r
mul-sum d q r = grind arith

sum-mul : (i j d : ℕ) → (i + j) * d ≡ i * d + j * d
sum-mul i j d = grind arith

-- the parts of a sum with no carry
parts-of-sum : (d a b : ℕ) → a % d + b % d < d
    → ((a + b) % d ≡ a % d + b % d) × ((a + b) / d ≡ a / d + b / d)
parts-of-sum d a b small =
    let whole : a + b ≡ a % d + b % d + d * (a / d + b / d) =
    omega (arith, mod-add-div a d, mod-add-div b d, mul-sum d (a / d) (b / d)) in (
      ap (λ n. n % d) whole ∙ index-of_row d (a / d + b / d) (a % d + b % d) small,
      ap (λ n. n / d) whole ∙ row-of_row d (a / d + b / d) (a % d + b % d) small,
    )

-- with no carry the place that a sum reaches is that of the first place, and the second one's steps
-- from there
pub reached-sum : (start : ℕ) (axes : List Axis) (a b : ℕ) → AreApart axes a b
    → reached start axes (a + b) ≡ reached start axes a + reached 0 axes b
reached-sum start [] a b apart = omega arith
reached-sum start (x ∷ rest) a b apart =
    let parts = parts-of-sum x.size a b apart.1.0 in
    let slower = reached-sum start rest (a / x.size) (b / x.size) apart.1.1 in
    rw (parts.0, parts.1, apart.0, slower)
    (omega (arith, sum-mul (a % x.size) (b % x.size) x.step))

-- what is left of two places within some axes stays within these: so do the indices along the last
-- of them
index-within : (before size a b : ℕ) → 0 < before
    → a % (before * size) + b % (before * size) < before * size
    → a / before % size + b / before % size < size
index-within before size a b some small =
    let i : ℕ = a / before % size in
    let j : ℕ = b / before % size in
    let some_size : 0 < size = some_factor before size 0 (omega arith) in
    let rest : (n : ℕ) → n % (before * size) ≡ n / before % size * before + n % before =
    λ n. ap (λ m. n % m) (mul_comm before size) ∙ mod-mul n some_size some in
    let over : size ≤ i + j → ⊥ = λ more.
    omega (
      arith,
      small,
      rest a,
      rest b,
      mul-sum before i j,
      mul_comm before i,
      mul_comm before j,
      mul-le-mul_left before more,
    ) in
    lt_of_not-le over

-- an axis more
apart-cons : (x : Axis) (rest : List Axis) (before a b : ℕ) → x.reversed ≡ false
    → a / before % x.size + b / before % x.size < x.size
    → AreApart rest (a / (before * x.size)) (b / (before * x.size))
    → AreApart (x ∷ rest) (a / before) (b / before)
apart-cons x rest before a b rises small slower = (
  rises,
  (
    small,
    subst (λ n. AreApart rest n (b / before / x.size)) (sym (div-div-eq-div-mul a before x.size))
        (subst (AreApart rest (a / (before * x.size))) (sym (div-div-eq-div-mul b before x.size))
        slower),
  ),
)

none-of : (axes : List Axis) → length axes ≡ 0 → axes ≡ []
none-of [] none = refl
none-of (a ∷ axes) none = absurd (omega arith)

module _ (x : Axis) (rest : List Axis) (before : ℕ) (starts offsets : List ℕ)
    (rises : x.reversed ≡ false) where
  -- within which what is left of any two places stays
  pub apart-more : (i j : ℕ) → 0 < before → i + j < before * x.size
      → ((k : ℕ) → k < length starts → slice_index starts k % (before * x.size) ≤ i)
      → ((k : ℕ) → k < length offsets → slice_index offsets k % (before * x.size) ≤ j)
      → AreAllApart rest (before * x.size) starts offsets
      → AreAllApart (x ∷ rest) before starts offsets
  apart-more i j some small first second apart k q row value =
      apart-cons x rest before (slice_index starts k) (slice_index offsets q) rises
      (index-within before x.size (slice_index starts k) (slice_index offsets q) some
      (omega (arith, first k row, second q value)))
      (apart k q row value)

  -- of one place
  pub apart-one : x.size ≡ 1 → AreAllApart rest (before * x.size) starts offsets
      → AreAllApart (x ∷ rest) before starts offsets
  apart-one one apart k q row value =
      apart-cons x rest before (slice_index starts k) (slice_index offsets q) rises
      (rw one (omega arith)) (apart k q row value)

  -- the last one, where the sums are places
  pub apart-last : 0 < before → length rest ≡ 0
      → ((k q : ℕ) → k < length starts → q < length offsets
      → slice_index starts k + slice_index offsets q < before * view_size (x ∷ rest))
      → AreAllApart (x ∷ rest) before starts offsets
  apart-last some last inside k q row value =
      let none : rest ≡ [] = none-of rest last in
      let size : before * view_size (x ∷ rest) ≡ before * x.size =
      rw none (ap (λ n. before * n) (omega arith)) in
      let a : ℕ = slice_index starts k in
      let b : ℕ = slice_index offsets q in
      apart-cons x rest before a b rises
      (index-within before x.size a b some
      (omega (
        arith,
        size,
        inside k q row value,
        mod-le a (before * x.size),
        mod-le b (before * x.size),
      )))
      (rw none tt)

-- a table mapped along a view
pub record IsMapped (start : ℕ) (axes : List Axis) (places mapped : List ℕ) : Type 0 where
  pub len : length mapped ≡ length places
  pub each : (k : ℕ) → k < length places
      → slice_index mapped k ≡ reached start axes (slice_index places k)

-- so are the sums of the places of two tables
pub mapped-sum : (start : ℕ) (axes : List Axis) (starts offsets first second : List ℕ)
    → AreAllApart axes 1 starts offsets
    → IsMapped start axes starts first → IsMapped 0 axes offsets second
    → (x q : ℕ) → x < length first → q < length second
    → slice_index first x + slice_index second q
    ≡ reached start axes (slice_index starts x + slice_index offsets q)
mapped-sum start axes starts offsets first second apart is_first is_second x q row value =
    let below : x < length starts = omega (arith, is_first.len) in
    let within : q < length offsets = omega (arith, is_second.len) in
    let alone : (n : ℕ) → n / 1 ≡ n = λ n. omega arith in
    let both : AreApart axes (slice_index starts x) (slice_index offsets q) =
    subst (λ n. AreApart axes n (slice_index offsets q)) (alone (slice_index starts x))
    (subst (AreApart axes (slice_index starts x / 1)) (alone (slice_index offsets q))
    (apart x q below within)) in
    let whole = reached-sum start axes (slice_index starts x) (slice_index offsets q) both in
    omega (arith, whole, is_first.each x below, is_second.each q within)
