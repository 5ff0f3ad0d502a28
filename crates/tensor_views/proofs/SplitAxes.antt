-- Axes in parts: a view along them reaches the same places.
use Rattle.std.proofs.Common.{◌≡◌, ℕ, zero, suc, ◌+◌, ◌-◌, ◌*◌, ◌/◌, ◌%◌, ◌<◌, ◌≤◌, List, [], ◌∷◌, length, drop, get_or, Bool, true, false, nat_eq, nat_lt}
use Rattle.std.proofs.Common.{refl, ap, sym, ◌∙◌, arith, inl, inr, add-one}
use Rattle.std.proofs.Math.Seq.{drop-cons}
use Rattle.std.proofs.lemmas.Bool.{cases_Bool, and_parts, ltb-true, eqb-true}
use Rattle.std.proofs.Math.Nat.{div-div-eq-div-mul, mod-add-div, mod-lt, mul-le-mul_left, mul_comm}
use Rattle.tensor_views.specs.Forward.{forward}
use Rattle.tensor_views.specs.Composing.{span}
use Rattle.tensor_views.specs.private.Tracing.{is_split, split_axes, IsSameView}
use Rattle.tensor_views.specs.View.{view_size, reached, steps_to}
use Rattle.tensor_views.specs.declared.axis.Axis.{Axis}
use Rattle.tensor_values.proofs.Factors.{some_size}

pub view_size-at : (axes : List Axis) (i : ℕ) (d : Axis) → i < length axes
    → view_size (drop i axes) ≡ (get_or axes i d).size * view_size (drop (i + 1) axes)
view_size-at axes i d within = rw (add-one, drop-cons axes i d within) refl

pub span-at : (axes : List Axis) (i : ℕ) (d : Axis) → i < length axes
    → span (drop i axes) ≡ ((get_or axes i d).size - 1) * (get_or axes i d).step + span (drop (i + 1) axes)
span-at axes i d within = rw (add-one, drop-cons axes i d within) refl

pub reached-at : (axes : List Axis) (i q : ℕ) (d : Axis) → i < length axes
    → reached 0 (drop i axes) q ≡ reached 0 (get_or axes i d ∷ drop (i + 1) axes) q
reached-at axes i q d within = rw (add-one, drop-cons axes i d within) refl

-- the index along an axis, by the indices along its two parts
index-two : (m k p : ℕ) → p % (m * k) ≡ p % m + m * (p / m % k)
index-two m k p =
    let whole = mod-add-div p m in
    let slow = mod-add-div (p / m) k in
    let both = mod-add-div p (m * k) in
    let quotient = div-div-eq-div-mul p m k in
    let shares : m * (p / m % k + k * (p / m / k)) ≡ m * (p / m % k) + m * k * (p / m / k) = grind arith in
    let same : m * (p / m) ≡ m * (p / m % k) + m * k * (p / m / k) = ap (λ n. m * n) (sym slow) ∙ shares in
    let last : m * k * (p / m / k) ≡ m * k * (p / (m * k)) = ap (λ n. m * k * n) quotient in
    omega (arith, whole, both, same, last)

-- so are its steps
steps-two : (m k i j : ℕ) (reversed : Bool) (s t u : ℕ) → i < m → j < k
    → steps_to (record { size = m * k; step = s; reversed = reversed }) (i + m * j)
    ≡ steps_to (record { size = m; step = t; reversed = reversed }) i + m * steps_to (record { size = k; step = u; reversed = reversed }) j
steps-two m k i j true s t u below_m below_k =
    let rest : (r : ℕ) × (k ≡ 1 + (j + r)) = (k - 1 - j, omega arith) in
    let all : m * k ≡ m + (m * j + m * rest.0) = rw rest.1 (grind arith) in
    let left : k - 1 - j ≡ rest.0 = refl in
    rw left (omega (arith, all))
steps-two m k i j false s t u below_m below_k = refl

-- also where the index and the size are given
steps-split_axes : (a : Axis) (m k p i j t u : ℕ) → a.size ≡ m * k → p % (m * k) ≡ i + m * j → i < m → j < k
    → steps_to a (p % a.size)
    ≡ steps_to (record { size = m; step = t; reversed = a.reversed }) i + m * steps_to (record { size = k; step = u; reversed = a.reversed }) j
steps-split_axes a m k p i j t u is_size is_index below_m below_k =
    rw (is_size, is_index) (steps-two m k i j a.reversed 0 t u below_m below_k)

-- a factor of something isn't 0
some_factor : (m k : ℕ) → 0 < m * k → 0 < k
some_factor m zero h = absurd (omega arith)
some_factor m (suc k) h = omega arith

mul-suc : (m k : ℕ) → suc m * suc k ≡ suc (m + k * suc m)
mul-suc m k = grind arith

mul-assoc : (a b c : ℕ) → a * (b * c) ≡ a * b * c
mul-assoc a b c = grind arith

-- equal views stay equal with an axis before them
pub same-cons : (a : Axis) (xs ys : List Axis) → IsSameView xs ys → IsSameView (a ∷ xs) (a ∷ ys)
same-cons a xs ys same = record {
  size = ap (λ n. a.size * n) same.size;
  reaches = λ p. ap (λ n. n + steps_to a (p % a.size) * a.step) (same.reaches (p / a.size));
  span = ap (λ n. (a.size - 1) * a.step + n) same.span;
}

pub same-after : (xs ys zs : List Axis) → IsSameView xs ys → IsSameView ys zs → IsSameView xs zs
same-after xs ys zs first second = record {
  size = first.size ∙ second.size;
  reaches = λ p. first.reaches p ∙ second.reaches p;
  span = first.span ∙ second.span;
}

pub same-itself : (xs : List Axis) → IsSameView xs xs
same-itself xs = record { size = refl; reaches = λ p. refl; span = refl }

-- the spans of two parts
span-two : (m k s : ℕ) → 0 < m → 0 < k → (m - 1) * s + (k - 1) * (m * s) ≡ (m * k - 1) * s
span-two zero k s some_m some_k = absurd (omega arith)
span-two (suc m) zero s some_m some_k = absurd (omega arith)
span-two (suc m) (suc k) s some_m some_k =
    let size : suc m * suc k - 1 ≡ m + k * suc m = omega (arith, mul-suc m k) in
    let slow : suc k - 1 ≡ k = omega arith in
    let fast : suc m - 1 ≡ m = omega arith in
    rw (size, slow, fast) (grind arith)

-- an axis in two parts reaches the same places
same-two : (a : Axis) (rest : List Axis) (m k stride : ℕ) → a.size ≡ m * k → stride ≡ m * a.step → 0 < m → 0 < k
    → IsSameView (record { size = m; step = a.step; reversed = a.reversed } ∷ record { size = k; step = stride; reversed = a.reversed } ∷ rest) (a ∷ rest)
same-two a rest m k stride is_size is_stride some_m some_k =
    let one : Axis = record { size = m; step = a.step; reversed = a.reversed } in
    let two : Axis = record { size = k; step = stride; reversed = a.reversed } in
    record {
      size = rw is_size (grind arith);
      reaches = λ p.
          let quotient : reached 0 rest (p / m / k) ≡ reached 0 rest (p / (m * k)) = ap (reached 0 rest) (div-div-eq-div-mul p m k) in
          let steps : steps_to a (p % a.size) ≡ steps_to one (p % m) + m * steps_to two (p / m % k) =
          steps-split_axes a m k p (p % m) (p / m % k) a.step stride is_size (index-two m k p) (mod-lt p some_m) (mod-lt (p / m) some_k) in
          let shares : (steps_to one (p % m) + m * steps_to two (p / m % k)) * a.step
          ≡ steps_to one (p % m) * a.step + steps_to two (p / m % k) * (m * a.step) = grind arith in
          rw (steps, is_size, is_stride) (omega (arith, quotient, shares));
      span =
          let both = span-two m k a.step some_m some_k in
          rw (is_size, is_stride) (omega (arith, both));
    }

pub split_axes-same : (stride : ℕ) (axes : List Axis) → IsSameView (split_axes stride axes) axes
split_axes-same stride [] = same-itself []
split_axes-same stride (a ∷ rest) =
    let slower = split_axes-same stride rest in
    elim (cases_Bool (is_split stride a)) [
      | inl parts ↦
          let m : ℕ = stride / a.step in
          let first = and_parts (nat_lt 0 a.step) _ parts in
          let second = and_parts (nat_eq (stride % a.step) 0) _ first.1 in
          let third = and_parts (nat_lt 1 m) _ second.1 in
          let fourth = and_parts (nat_lt m a.size) (nat_eq (a.size % m) 0) third.1 in
          let none : stride % a.step ≡ 0 = eqb-true (stride % a.step) 0 second.0 in
          let more : 1 < m = ltb-true 1 m third.0 in
          let past : m < a.size = ltb-true m a.size fourth.0 in
          let whole : a.size % m ≡ 0 = eqb-true (a.size % m) 0 fourth.1 in
          let stride_is : stride ≡ m * a.step = omega (arith, none, mod-add-div stride a.step, mul_comm m a.step) in
          let size_is : a.size ≡ m * (a.size / m) = omega (arith, whole, mod-add-div a.size m) in
          let some_k : 0 < a.size / m = some_factor m (a.size / m) (omega (arith, size_is)) in
          rw parts
          (same-after _ _ _
          (same-cons (record { size = m; step = a.step; reversed = a.reversed }) _ _
          (same-cons (record { size = a.size / m; step = stride; reversed = a.reversed }) _ _ slower))
          (same-two a rest m (a.size / m) stride size_is stride_is (omega (arith, more)) some_k))
      | inr whole ↦ rw whole (same-cons a _ _ slower)
    ]

-- an axis that is left has places where all of them have
pub some-at : (axes : List Axis) (i : ℕ) (d : Axis) → i < length axes → 0 < view_size (drop i axes)
    → 0 < (get_or axes i d).size
some-at axes i d within some =
    some_size (get_or axes i d).size (view_size (drop (i + 1) axes)) 0
    (omega (arith, some, view_size-at axes i d within))

-- axes that are left have places where all have, and a stride times their places is within bounds
pub some-after : (axes : List Axis) (i : ℕ) → i < length axes → 0 < view_size (drop i axes) → 0 < view_size (drop (i + 1) axes)
some-after axes i within some =
    some_factor (get_or axes i (forward 0 0)).size (view_size (drop (i + 1) axes)) (omega (arith, some, view_size-at axes i (forward 0 0) within))

pub stride-within : (axes : List Axis) (i stride limit : ℕ) → i < length axes → 0 < view_size (drop i axes)
    → stride * view_size (drop i axes) < limit
    → (stride * (get_or axes i (forward 0 0)).size < limit) × (stride * (get_or axes i (forward 0 0)).size * view_size (drop (i + 1) axes) < limit)
stride-within axes i stride limit within some few =
    let n : ℕ = (get_or axes i (forward 0 0)).size in
    let m : ℕ = view_size (drop (i + 1) axes) in
    let same : stride * view_size (drop i axes) ≡ stride * n * m = ap (λ k. stride * k) (view_size-at axes i (forward 0 0) within) ∙ mul-assoc stride n m in
    let least : 1 ≤ m = omega (arith, some-after axes i within some) in
    let more : stride * n * 1 ≤ stride * n * m = mul-le-mul_left (stride * n) least in
    (omega (arith, same, few, more), omega (arith, same, few))
